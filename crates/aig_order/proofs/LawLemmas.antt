-- The laws of the order.
use Rattle.std.proofs.Common.{◌≡◌, ◌<◌, ℕ, true, false, List, length, ◌⊎◌, inl, inr}
use Rattle.std.proofs.lemmas.Bool.{cases_Bool}
use Rattle.aig_order.specs.declared.gate.Gate.{Gate}
use Rattle.aig_order.specs.Gates.{IsOrder, IsComplete, Depends, depends, order}
use Rattle.aig_order.proofs.Orders.{taken-order, cyclic-absent}
use Rattle.aig_order.proofs.AllTaken as whole
use Rattle.aig_order.proofs.Cycles.{depends-right}

pub ordered : (gates : List Gate) → IsOrder gates (order gates)
ordered gates = taken-order gates (length gates)

pub complete : (gates : List Gate) → ((k : ℕ) → k < length gates → ¬ Depends gates k k) → IsComplete gates (order gates)
complete gates none = whole.complete gates (λ k lt. clear k lt (cases_Bool (depends gates (length gates) k k)))
  where
    clear : (k : ℕ) → k < length gates → (depends gates (length gates) k k ≡ true) ⊎ (depends gates (length gates) k k ≡ false) → depends gates (length gates) k k ≡ false
    clear k lt (inl round) = absurd (none k lt ((depends-right gates k k lt lt).1 round))
    clear k lt (inr no_round) = no_round

pub ruleset laws = (ordered, cyclic-absent, complete, depends-right)
