use Rattle.std.proofs.Common.{length}
use Rattle.aig_order.proofs.search.Search.close.Given as goal

abbrev pub invariant-loop-j : goal.invariant-loop-j
invariant-loop-j l = Unit {0}

abbrev pub decreases-loop-j : goal.decreases-loop-j
decreases-loop-j l = length l.self.open
