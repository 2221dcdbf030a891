use Rattle.fin_monitor.specs.Seen.{machine_of}
use Rattle.dominance.specs.Telling.{AreRejecting}
use Rattle.dominance.proofs.rejecting.is_rejectable.Given as goal

abbrev pub invariant-loop-pass : goal.invariant-loop-pass
invariant-loop-pass g l = AreRejecting (machine_of l.m) l.rejecting
