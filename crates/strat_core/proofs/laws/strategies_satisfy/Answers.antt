use Rattle.strat_core.proofs.Satisfying.{satisfied}
use Rattle.strat_core.proofs.laws.strategies_satisfy.Goals as goal

pub returns : goal.returns
returns c = satisfied c.one_run.ensures.recurs
