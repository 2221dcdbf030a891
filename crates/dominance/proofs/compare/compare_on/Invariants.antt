use Rattle.std.proofs.Common.{ℕ, ◌<◌}
use Rattle.fin_monitor.specs.Seen.{machine_of}
use Rattle.dominance.specs.Dominance.{DominatesAt}
use Rattle.dominance.proofs.compare.compare_on.Given as goal

abbrev pub invariant-loop-place : goal.invariant-loop-place
invariant-loop-place g l =
    (p : ℕ) → p < l.place
    → DominatesAt l.lengths (machine_of l.m).variables (machine_of l.m).body p l.t l.u
