-- Why `universal_runs_are_runs` keeps its contract.
use Rattle.strat_compose.proofs.PartRuns.{has-copies, own, own-execution, own-run, own-same}
use Rattle.strat_compose.proofs.laws.universal_runs_are_runs.Goals as goal

pub returns-clause-runs : goal.returns-clause-runs
returns-clause-runs c net strategy m e signal atoms run values good fine is k few = (
  own net strategy m e signal atoms good fine run values is k few,
  own-execution net strategy m e signal atoms good fine run values is k few,
  own-run net strategy m e signal atoms good fine run values is k few,
  own-same net strategy m e signal atoms good fine run values is k few,
)

pub returns-clause-has : goal.returns-clause-has
returns-clause-has c = has-copies
