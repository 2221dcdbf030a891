use Rattle.aig_order.proofs.Reach.{IsReach}
use Rattle.aig_order.proofs.cycle.is_cyclic.Given as goal

-- the uses of those found before place p are found
abbrev pub invariant-loop-p : goal.invariant-loop-p
invariant-loop-p l = IsReach l.gates l.k l.p l.reach.seen l.reach.found
