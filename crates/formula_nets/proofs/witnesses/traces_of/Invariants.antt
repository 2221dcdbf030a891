use Rattle.std.proofs.Common.{take}
use Rattle.formula_nets.specs.Witnesses.{AreTraces}
use Rattle.formula_nets.proofs.witnesses.traces_of.Given as goal

abbrev pub invariant-loop-run : goal.invariant-loop-run
invariant-loop-run l = AreTraces l.net l.signals (take l.run-index l.runs) l.traces
