-- Finite sets of numbers.
use Rattle.std.specs.Prelude.{◌≡◌, ℕ, ◌<◌, ◌≤◌, true, false, Option, Some, None, IsTrue}
use Rattle.std.specs.Ordering.{nat_cmp}
use Rattle.std.specs.FinSet.{FinSet, contains}

abbrev pub NumberSet : Type 0
NumberSet = FinSet nat_cmp

-- each member is below the number
abbrev pub AreBelow : ℕ → NumberSet → Type 0
AreBelow n s = (i : ℕ) → IsTrue (contains s i) → i < n

-- no number from one on up to another is a member
abbrev pub HasNone : NumberSet → ℕ → ℕ → Type 0
HasNone s from to = (q : ℕ) → from ≤ q → q < to → contains s q ≡ false

-- the least member from a number on
abbrev pub IsNext : NumberSet → ℕ → Option ℕ → Type 0
IsNext s from (Some i) = (from ≤ i) × (contains s i ≡ true) × HasNone s from i
IsNext s from None = (q : ℕ) → from ≤ q → contains s q ≡ false
