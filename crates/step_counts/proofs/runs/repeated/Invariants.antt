use Rattle.std.proofs.Common.{◌≡◌, length}
use Rattle.std.specs.List.{Contains}
use Rattle.hy_finite.specs.Traces.{Trace}
use Rattle.step_counts.proofs.runs.repeated.Given as goal

abbrev pub invariant-loop-k : goal.invariant-loop-k
invariant-loop-k l =
    (length l.list ≡ l._k) × ((t : Trace) → Contains l.list t → t ≡ l.trace)
