use Rattle.strat_core.proofs.Readings.{one-shape, one-signal}
use Rattle.strat_core.proofs.laws.one_reading.Goals as goal

pub returns-clause-copies : goal.returns-clause-copies
returns-clause-copies c = one-shape

pub returns-clause-signals : goal.returns-clause-signals
returns-clause-signals c = one-signal
