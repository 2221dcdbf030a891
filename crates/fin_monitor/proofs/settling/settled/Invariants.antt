use Rattle.std.proofs.Common.{◌≡◌, ℕ, true, length}
use Rattle.fin_monitor.specs.Tables.{flag_at}
use Rattle.fin_monitor.proofs.settling.settled.Given as goal

abbrev pub invariant-loop-pass : goal.invariant-loop-pass
invariant-loop-pass l =
    record {
      long : length l.settled ≡ length l.machine.accepting;
      accept : (q : ℕ) → flag_at l.settled q ≡ true → flag_at l.machine.accepting q ≡ true;
    }
