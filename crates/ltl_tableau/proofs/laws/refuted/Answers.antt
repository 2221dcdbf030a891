use Rattle.ltl_tableau.proofs.Refuting.{no-fair_run}
use Rattle.ltl_tableau.proofs.laws.refuted.Goals as goal

pub returns : goal.returns
returns c = no-fair_run
