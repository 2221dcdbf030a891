use Rattle.formula_nets.proofs.SameSignals.{same-satisfaction}
use Rattle.formula_nets.proofs.laws.same_signals.Goals as goal

pub returns : goal.returns
returns c = same-satisfaction
