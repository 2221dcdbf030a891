use Rattle.chain_check.proofs.laws.passed_clauses.Goals as goal
use Rattle.chain_check.proofs.Passing.{passed-clauses}

pub returns : goal.returns
returns c = passed-clauses
