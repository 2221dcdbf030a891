-- A conflict on its way to a learned clause.
use Rattle.std.specs.Prelude.{◌≡◌, ℕ, zero, suc, ◌<◌, ◌≤◌, Bool, true, false, cond, nat_le, ◌&&◌, ℤ, pos, neg_ℤ, List, length, reverse, Contains, slice_index_or}
use Rattle.chain_check.specs.Clauses.{Clause}
use Rattle.chain_check.specs.Chains.{AllFalseIn, Refutes}

-- how many places from `start` on and below p are seen
abbrev pub seen_count : List Bool → ℕ → ℕ → ℕ
seen_count seen start zero = 0
seen_count seen start (suc p) = cond (nat_le start p && slice_index_or seen p false)
    (suc (seen_count seen start p)) (seen_count seen start p)

-- What is pending are the seen places below p: `unsettled` of them from `start` on, and `lower` below it.
pub record IsAnalysis (trail : List ℤ) (start p : ℕ) (seen : List Bool)
    (lower unsettled : ℕ) : Type 0 where
  pub long : length trail ≤ length seen
  pub below_end : p ≤ length trail
  pub counted : unsettled ≡ seen_count seen start p
  pub below : lower ≡ seen_count seen 0 start

-- Whatever makes the kept literals false and has what is pending true, and nothing beside the trail, is
-- refuted by the chain.
abbrev pub IsRefuting : List Clause → List ℤ → ℕ → Clause → List Bool → List ℕ → Type 0
IsRefuting clauses trail p kept seen chain =
    (trues : List ℤ) → AllFalseIn trues kept →
    ((i : ℕ) → i < p → slice_index_or seen i false ≡ true →
    Contains trues (slice_index_or trail i (pos 0))) →
    ((l : ℤ) → Contains trues l → Contains trail l) → Refutes clauses trues (reverse chain)

-- the false ones among the literals are seen
abbrev pub AreMarked : List ℤ → ℕ → List Bool → Clause → Type 0
AreMarked trail p seen c = (m : ℤ) → Contains c m → (i : ℕ) → i < p →
    slice_index_or trail i (pos 0) ≡ neg_ℤ m → slice_index_or seen i false ≡ true

abbrev pub AreMore : List Bool → List Bool → Type 0
AreMore old new = (i : ℕ) → slice_index_or old i false ≡ true → slice_index_or new i false ≡ true
