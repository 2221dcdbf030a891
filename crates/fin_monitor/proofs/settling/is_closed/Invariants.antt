use Rattle.std.proofs.Common.{◌≡◌, ◌^◌, ◌<◌, ℕ, true}
use Rattle.fin_monitor.specs.Tables.{flag_at, Stays}
use Rattle.fin_monitor.proofs.settling.is_closed.Given as goal

abbrev pub invariant-loop-q : goal.invariant-loop-q
invariant-loop-q l = (q : ℕ) → q < l.q → flag_at l.settled q ≡ true → Stays l.machine (2 ^ l.bits) l.settled q
