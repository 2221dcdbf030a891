-- Two watched literals for each clause.
use Rattle.std.specs.Prelude.{◌≡◌, ◌≢◌, ℕ, ◌+◌, ◌*◌, ◌<◌, ◌≤◌, ◌⊎◌, ℤ, pos, neg_ℤ, List, [], ◌∷◌, ◌++◌, length, Contains, slice_index, slice_index_or, slice_set}
use Rattle.sat_core.specs.declared.solver.Solver.{Solver}
use Rattle.sat_core.specs.declared.watches.Pair.{Pair}
use Rattle.chain_check.specs.Clauses.{Clause}
use Rattle.chain_check.specs.Chains.{IsFalseIn}
use Rattle.sat_core.specs.Lists.{place_of}

-- the literal stands at this place of the trail
abbrev pub StandsAt : List ℤ → ℤ → ℕ → Type 0
StandsAt trail l i = (i < length trail) × (slice_index_or trail i (pos 0) ≡ l)

-- A literal of the clause is true, at a place j of which this holds.
abbrev pub IsTrueAt : List ℤ → Clause → (ℕ → Type 0) → Type 0
IsTrueAt trail c P = (b : ℤ) × (j : ℕ) × (Contains c b × StandsAt trail b j × P j)

-- place j is of a level that is not higher than that of place i
abbrev pub IsNotAbove : List ℕ → ℕ → ℕ → Type 0
IsNotAbove limits i j = (q : ℕ) → q < length limits → i < slice_index limits q →
    j < slice_index limits q

-- place j is before all decisions
abbrev pub IsBelow : List ℕ → ℕ → Type 0
IsBelow limits j = (q : ℕ) → q < length limits → j < slice_index limits q

-- Where the literal is false before place `done`, the clause is true at a level not higher.
abbrev pub IsCovered : List ℤ → List ℕ → ℕ → Clause → ℤ → Type 0
IsCovered trail limits done c l = (i : ℕ) → i < done → StandsAt trail (neg_ℤ l) i →
    IsTrueAt trail c (IsNotAbove limits i)

-- the clause is true for good
abbrev pub IsFixed : List ℤ → List ℕ → Clause → Type 0
IsFixed trail limits c = IsTrueAt trail c (IsBelow limits)

-- Two different literals of the clause are watched, up to place `done` of the trail.
pub record IsWatched (trail : List ℤ) (limits : List ℕ) (done : ℕ) (c : Clause)
    (l m : ℤ) : Type 0 where
  pub differ : l ≢ m
  pub left : IsCovered trail limits done c l
  pub right : IsCovered trail limits done c m

abbrev pub no_pair : Pair
no_pair = record { first = pos 0; second = pos 0 }

-- The clause number k, from 0, is true for good, or its pair is watched and lists it.
pub record IsHeld (trail : List ℤ) (limits : List ℕ) (done : ℕ) (lists : List (List ℕ)) (c : Clause)
    (k : ℕ) (pair : Pair) : Type 0 where
  pub first : Contains c pair.first
  pub second : Contains c pair.second
  pub guarded : IsFixed trail limits c ⊎ (IsWatched trail limits done c pair.first pair.second ×
      Contains (slice_index_or lists (place_of pair.first) []) k ×
      Contains (slice_index_or lists (place_of pair.second) []) k)

-- The first clauses, as many as there are pairs, are watched up to place `done` of the trail.
pub record IsWatching (s : Solver) (done : ℕ) (pairs : List Pair)
    (lists : List (List ℕ)) : Type 0 where
  pub reached : done ≤ length s.partial.literals
  pub after : (q : ℕ) → q < length s.limits.items → slice_index s.limits.items q ≤ done
  pub sized : 2 * s.partial.variables + 1 < length lists
  pub within : length pairs ≤ length s.clauses
  pub inside : (i k : ℕ) → Contains (slice_index_or lists i []) k → k < length pairs
  pub held : (k : ℕ) → k < length pairs → IsHeld s.partial.literals s.limits.items done lists
      (slice_index_or s.clauses k []) k (slice_index_or pairs k no_pair)

-- all literals of the clause but this one are false
abbrev pub AllFalseBut : List ℤ → Clause → ℤ → Type 0
AllFalseBut trues c other = (m : ℤ) → Contains c m → m ≢ other → IsFalseIn trues m

-- a literal of the clause that can be watched beside the other
pub record IsReplacement (trues : List ℤ) (c : Clause) (other m : ℤ) : Type 0 where
  pub there : Contains c m
  pub differ : m ≢ other
  pub open_yet : ¬ IsFalseIn trues m

-- one of the pair, and not l where they differ
pub record IsOther (pair : Pair) (l other : ℤ) : Type 0 where
  pub one : (other ≡ pair.first) ⊎ (other ≡ pair.second)
  pub apart : pair.first ≢ pair.second → other ≢ l

-- the number is added to the lists of both
abbrev pub AreAdded : ℕ → ℤ → ℤ → List (List ℕ) → List (List ℕ) → Type 0
AreAdded k l m old new =
    let mid = slice_set old (place_of l) (slice_index_or old (place_of l) [] ++ k ∷ []) in
    new ≡ slice_set mid (place_of m) (slice_index_or mid (place_of m) [] ++ k ∷ [])
