use Rattle.formula_nets.proofs.OwnSignals.{own-signals}
use Rattle.formula_nets.proofs.laws.signals_are_own.Goals as goal

pub returns : goal.returns
returns c = own-signals
