use Rattle.ltl_closure.proofs.Roots.{root-right}
use Rattle.ltl_closure.proofs.laws.root_right.Goals as goal

pub returns : goal.returns
returns c = root-right
