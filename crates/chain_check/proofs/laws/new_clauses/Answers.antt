use Rattle.chain_check.proofs.laws.new_clauses.Goals as goal
use Rattle.chain_check.proofs.ThreeWays.{few-new}

pub returns : goal.returns
returns c = few-new
