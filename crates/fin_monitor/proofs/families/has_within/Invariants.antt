use Rattle.std.proofs.Common.{◌≡◌, ◌≤◌, false, length, drop}
use Rattle.std.specs.List.{list_any}
use Rattle.fin_monitor.specs.Duties.{Duty, within}
use Rattle.fin_monitor.proofs.families.has_within.Given as goal

abbrev pub invariant-loop-i : goal.invariant-loop-i
invariant-loop-i g l =
    record {
      inside : l.i ≤ length l.list;
      none : list_any (λ (e : Duty). within e l.d) (drop l.i l.list) ≡ false;
    }

abbrev pub decreases-loop-i : goal.decreases-loop-i
decreases-loop-i g l = l.i
