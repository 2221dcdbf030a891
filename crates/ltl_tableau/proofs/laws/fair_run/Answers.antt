use Rattle.ltl_tableau.proofs.Running.{run, run-goes, run-fair}
use Rattle.ltl_tableau.proofs.laws.fair_run.Goals as goal

pub returns : goal.returns
returns c nodes form words roots d numbers start =
    (run nodes form words d numbers roots start, run-goes nodes form words d numbers roots start, run-fair nodes form words d numbers roots start)
