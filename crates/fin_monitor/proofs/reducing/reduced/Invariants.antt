use Rattle.std.proofs.Common.{◌≤◌, drop, length}
use Rattle.fin_monitor.specs.Reductions.{LeaveAlike}
use Rattle.fin_monitor.proofs.reducing.reduced.Given as goal

abbrev pub invariant-loop-i : goal.invariant-loop-i
invariant-loop-i g l =
    record {
      within : l.i ≤ length l.residual;
      alike : LeaveAlike l.closure.nodes l.made.items (drop l.i l.residual);
    }

abbrev pub decreases-loop-i : goal.decreases-loop-i
decreases-loop-i g l = l.i
