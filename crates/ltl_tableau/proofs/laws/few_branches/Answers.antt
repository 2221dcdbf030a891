use Rattle.ltl_tableau.proofs.Counting.{few-branches}
use Rattle.ltl_tableau.proofs.laws.few_branches.Goals as goal

pub returns : goal.returns
returns c = few-branches
