-- What is found first in an order, tests of the numbers below one, and members of a list.
use Rattle.std.specs.Prelude.{ℕ, zero, suc, Bool, true, false, ◌||◌, nat_eq, List, Option, Some, None}
use Rattle.std.specs.List.{list_any}

abbrev pub when : {A : Type 0} → Bool → A → Option A
when true a = Some a
when false a = None

abbrev pub otherwise : {A : Type 0} → Option A → Option A → Option A
otherwise (Some a) rest = Some a
otherwise None rest = rest

-- what is found first at the numbers below n
abbrev pub first_some : {A : Type 0} → ℕ → (ℕ → Option A) → Option A
first_some zero find = None
first_some (suc n) find = otherwise (first_some n find) (find n)

abbrev pub first_below : ℕ → (ℕ → Bool) → Option ℕ
first_below n test = first_some n (λ k. when (test k) k)

abbrev pub any_below : ℕ → (ℕ → Bool) → Bool
any_below zero test = false
any_below (suc n) test = any_below n test || test n

abbrev pub holds : ℕ → List ℕ → Bool
holds v list = list_any (nat_eq v) list
