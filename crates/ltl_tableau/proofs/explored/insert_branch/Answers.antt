use Rattle.ltl_tableau.proofs.Exploring.{puts-branch}
use Rattle.ltl_tableau.proofs.explored.insert_branch.Goals as goal

pub returns : goal.returns
returns g c = puts-branch _ _ _ _ c.in_ok-number.ensures.keys c.in_ok-number.ensures.within c.in_ok-number.ensures.stored
