use Rattle.chain_check.proofs.laws.refuted.Goals as goal
use Rattle.chain_check.proofs.Passing.{unsatisfied}

pub returns : goal.returns
returns c = unsatisfied
