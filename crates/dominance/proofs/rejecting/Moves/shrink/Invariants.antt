use Rattle.std.proofs.Common.{◌≤◌, length}
use Rattle.fin_monitor.specs.Seen.{machine_of}
use Rattle.dominance.specs.Telling.{AreRejecting}
use Rattle.dominance.proofs.rejecting.Moves.shrink.Given as goal

abbrev pub invariant-loop-q : goal.invariant-loop-q
invariant-loop-q g l = record {
  inside : l.q ≤ length l.among;
  rejecting : AreRejecting (machine_of l.self.monitor.now) l.among;
}

abbrev pub decreases-loop-q : goal.decreases-loop-q
decreases-loop-q g l = l.q
