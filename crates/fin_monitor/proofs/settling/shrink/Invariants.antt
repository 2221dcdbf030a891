use Rattle.std.proofs.Common.{◌≡◌, ◌≤◌, ℕ, true, length}
use Rattle.fin_monitor.specs.Tables.{flag_at}
use Rattle.fin_monitor.proofs.settling.shrink.Given as goal

abbrev pub invariant-loop-q : goal.invariant-loop-q
invariant-loop-q l =
    record {
      inside : l.q ≤ length l.settled;
      long : length l.settled ≡ length l.initial.settled;
      fewer : (q : ℕ) → flag_at l.settled q ≡ true → flag_at l.initial.settled q ≡ true;
    }

abbrev pub decreases-loop-q : goal.decreases-loop-q
decreases-loop-q l = l.q
