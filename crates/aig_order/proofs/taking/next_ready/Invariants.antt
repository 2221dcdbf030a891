use Rattle.std.proofs.Common.{length}
use Rattle.aig_order.proofs.Takes.{IsRest}
use Rattle.aig_order.proofs.taking.next_ready.Given as goal

-- what is ready and not taken is still there
abbrev pub invariant-loop-k : goal.invariant-loop-k
invariant-loop-k l = IsRest l.taken l.fn.ready l.ready

abbrev pub decreases-loop-k : goal.decreases-loop-k
decreases-loop-k l = length l.ready
