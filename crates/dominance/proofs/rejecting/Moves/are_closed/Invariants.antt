use Rattle.std.proofs.Common.{ℕ, ◌<◌}
use Rattle.std.specs.Prelude.{IsTrue}
use Rattle.fin_monitor.specs.Seen.{machine_of}
use Rattle.fin_monitor.specs.Tables.{flag_at}
use Rattle.dominance.specs.Telling.{MayStay}
use Rattle.dominance.proofs.rejecting.Moves.are_closed.Given as goal

abbrev pub invariant-loop-q : goal.invariant-loop-q
invariant-loop-q g l =
    (q : ℕ) → q < l.q → IsTrue (flag_at l.among q)
    → MayStay (machine_of l.self.monitor.now) l.self.parts.now l.self.codes.now l.among q
