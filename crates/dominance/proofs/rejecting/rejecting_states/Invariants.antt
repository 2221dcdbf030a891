use Rattle.std.proofs.Common.{◌≡◌, ℕ, ◌<◌, not, length}
use Rattle.fin_monitor.specs.Machines.{is_accepting}
use Rattle.fin_monitor.specs.Seen.{machine_of}
use Rattle.fin_monitor.specs.Tables.{flag_at}
use Rattle.dominance.proofs.rejecting.rejecting_states.Given as goal

abbrev pub invariant-loop-q : goal.invariant-loop-q
invariant-loop-q l = record {
  long : length l.rejecting ≡ l.q;
  reject : (p : ℕ) → p < l.q → flag_at l.rejecting p ≡ not (is_accepting (machine_of l.m) p);
}
