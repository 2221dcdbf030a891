use Rattle.std.proofs.Common.{ℕ, ◌<◌}
use Rattle.std.specs.Prelude.{slice_index}
use Rattle.fin_monitor.specs.Seen.{machine_of}
use Rattle.dominance.specs.Telling.{MayStayBy}
use Rattle.dominance.proofs.rejecting.Moves.may_stay.Given as goal

abbrev pub invariant-loop-part : goal.invariant-loop-part
invariant-loop-part g l =
    (k : ℕ) → k < l.part-index
    → MayStayBy (machine_of l.self.monitor.now) l.self.codes.now l.among l.q
    (slice_index l.self.parts.now k)
