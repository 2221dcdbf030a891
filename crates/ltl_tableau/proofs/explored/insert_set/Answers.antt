use Rattle.ltl_tableau.proofs.Exploring.{puts-set}
use Rattle.ltl_tableau.proofs.explored.insert_set.Goals as goal

pub returns : goal.returns
returns g c = puts-set _ _ _ c.in_ok-insert.ensures.keys
