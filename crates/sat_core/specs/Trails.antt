-- The trail of a solver: what is true, why, and since which decision.
use Rattle.std.specs.Prelude.{◌≡◌, ℕ, ◌<◌, ◌⊎◌, ℤ, pos, neg_ℤ, unsigned_abs, List, length, take, Contains, slice_index, slice_index_or}
use Rattle.chain_check.specs.Clauses.{Clause, IsLiteral}
use Rattle.chain_check.specs.Chains.{IsUnit, IsNumbered, AreTwo}

-- neither the literal nor its opposite is true
abbrev pub IsOpenIn : List ℤ → ℤ → Type 0
IsOpenIn trues l = (¬ Contains trues l) × (¬ Contains trues (neg_ℤ l))

-- a literal of the clause is true, or two are not false: it is not false, and says nothing of an open literal
abbrev pub IsSettled : List ℤ → Clause → Type 0
IsSettled trues c = ((l : ℤ) × Contains c l × Contains trues l) ⊎
    ((l : ℤ) × (m : ℤ) × AreTwo trues c l m)

-- propagation is complete
abbrev pub AreSettled : List Clause → List ℤ → Type 0
AreSettled clauses trues = (c : Clause) → Contains clauses c → IsSettled trues c

-- A literal that became true after those before it: by the clause with number `reason`, or, where that
-- is 0, by a decision. `limits` has the place of each level's decision.
pub record IsStep (variables : ℕ) (clauses : List Clause) (limits : List ℕ) (before : List ℤ)
    (l : ℤ) (reason : ℕ) : Type 0 where
  pub right : IsLiteral variables l
  pub fresh : IsOpenIn before l
  pub caused : 0 < reason → (c : Clause) × IsNumbered clauses reason c × IsUnit before c l
  pub decided : reason ≡ 0 → (j : ℕ) × (j < length limits) × (slice_index limits j ≡ length before)

pub record IsTrail (variables : ℕ) (clauses : List Clause) (trail : List ℤ)
    (reasons limits : List ℕ) : Type 0 where
  pub long : length reasons ≡ length trail
  pub steps : (i : ℕ) → i < length trail → IsStep variables clauses limits (take i trail)
      (slice_index_or trail i (pos 0)) (slice_index reasons i)
  pub within : (j : ℕ) → j < length limits → slice_index limits j < length trail
  pub rising : (i j : ℕ) → i < j → j < length limits → slice_index limits i < slice_index limits j
  -- before each decision propagation was complete
  pub complete : (j : ℕ) → j < length limits →
      AreSettled clauses (take (slice_index limits j) trail)

-- the place of each variable of the trail
abbrev pub ArePlaced : List ℤ → List ℕ → Type 0
ArePlaced trail places = (i : ℕ) → i < length trail →
    slice_index places (unsigned_abs (slice_index_or trail i (pos 0))) ≡ i
