use Rattle.std.proofs.Common.{◌≡◌, ◌+◌, ◌*◌, ◌^◌, ◌<◌, ℕ, true, get_or}
use Rattle.fin_monitor.specs.Tables.{flag_at}
use Rattle.fin_monitor.proofs.settling.stays.Given as goal

abbrev pub invariant-loop-code : goal.invariant-loop-code
invariant-loop-code l = (code : ℕ) → code < l.code → flag_at l.settled (get_or l.machine.table (l.q * 2 ^ l.bits + code) 0) ≡ true
