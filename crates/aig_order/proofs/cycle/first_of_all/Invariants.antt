use Rattle.std.proofs.Common.{◌<◌, ℕ}
use Rattle.aig_order.specs.Gates.{Depends}
use Rattle.aig_order.proofs.cycle.first_of_all.Given as goal

-- none before depends on itself
abbrev pub invariant-loop-k : goal.invariant-loop-k
invariant-loop-k l = (j : ℕ) → j < l.k → ¬ Depends l.gates j j
