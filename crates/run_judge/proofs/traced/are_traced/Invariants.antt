use Rattle.std.proofs.Common.{◌↔◌, drop}
use Rattle.run_judge.specs.Traced.{SayTraced}
use Rattle.run_judge.proofs.traced.are_traced.Given as goal

-- What is left says runs of the traces that are left where all does.
abbrev pub invariant-loop-trace : goal.invariant-loop-trace
invariant-loop-trace l =
    SayTraced l.net l.signals l.text l.traces
    ↔ SayTraced l.net l.signals l.left (drop l.trace-index l.traces)
