-- On which ands one depends.
use Rattle.std.specs.Prelude.{◌≡◌, ℕ, ◌<◌, ◌≤◌, ◌⊎◌, Bool, true, false, List, [], ◌∷◌, ◌++◌, length, slice_index, slice_index_or, slice_set, Option, Some, None}
use Rattle.aig_order.specs.declared.gate.Gate.{Gate}
use Rattle.aig_order.specs.Gates.{uses, Depends}

-- The and is found now; what was not found before is new.
abbrev pub IsVisited : Option ℕ → List Bool → List ℕ → List Bool → List ℕ → Type 0
IsVisited None seen found new_seen new_found = (new_seen ≡ seen) × (new_found ≡ found)
IsVisited (Some j) seen found new_seen new_found =
    ((slice_index_or seen j false ≡ true) × (new_seen ≡ seen) × (new_found ≡ found))
    ⊎ ((slice_index_or seen j false ≡ false) × (new_seen ≡ slice_set seen j true) × (new_found ≡ found ++ j ∷ []))

-- Those that the and uses are found now, one after the other.
pub record AreVisited (gates : List Gate) (k : ℕ) (seen : List Bool) (found : List ℕ) (new_seen : List Bool) (new_found : List ℕ) : Type 0 where
  pub left : Option ℕ
  pub right : Option ℕ
  pub mid_seen : List Bool
  pub mid_found : List ℕ
  pub first : IsVisited left seen found mid_seen mid_found
  pub second : IsVisited right mid_seen mid_found new_seen new_found
  pub used_left : (j : ℕ) → left ≡ Some j → (j < length gates) × (uses gates k j ≡ true)
  pub used_right : (j : ℕ) → right ≡ Some j → (j < length gates) × (uses gates k j ≡ true)
  pub all : (j : ℕ) → j < length gates → uses gates k j ≡ true → (left ≡ Some j) ⊎ (right ≡ Some j)

-- the least and that depends on itself
abbrev pub IsFirstCyclic : List Gate → Option ℕ → Type 0
IsFirstCyclic gates None = (k : ℕ) → k < length gates → ¬ Depends gates k k
IsFirstCyclic gates (Some k) = (k < length gates) × Depends gates k k × ((j : ℕ) → j < k → ¬ Depends gates j j)

-- No and uses one of a higher rank.
abbrev pub AreRanks : List Gate → List ℕ → Type 0
AreRanks gates ranks = (k j : ℕ) → k < length gates → j < length gates → uses gates k j ≡ true → slice_index ranks j ≤ slice_index ranks k

-- The number is above the ranks of what the and uses.
abbrev pub IsAbove : List Gate → List ℕ → ℕ → ℕ → Type 0
IsAbove gates ranks k n = (j : ℕ) → j < length gates → uses gates k j ≡ true → slice_index ranks j < n
