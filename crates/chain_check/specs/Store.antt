-- A partial assignment as contracts see it.
use Rattle.std.specs.Prelude.{◌≡◌, ℕ, ◌-◌, ◌<◌, ℤ, pos, unsigned_abs, List, length, take, Contains, slice_index_or}
use Rattle.chain_check.specs.Clauses.{AreLiterals}

pub record Trues : Type 0 where
  pub variables : ℕ
  -- the literals made true, in order
  pub literals : List ℤ

-- At each variable stands its literal that is true, or 0.
pub record AreMarks (marks literals : List ℤ) : Type 0 where
  pub right : AreLiterals (length marks - 1) literals
  pub marked : (l : ℤ) → Contains literals l → slice_index_or marks (unsigned_abs l) (pos 0) ≡ l
  pub listed : (l : ℤ) → 0 < unsigned_abs l → slice_index_or marks (unsigned_abs l) (pos 0) ≡ l →
      Contains literals l

-- no literal stands twice
abbrev pub IsFresh : List ℤ → Type 0
IsFresh literals = (i : ℕ) → i < length literals →
    ¬ Contains (take i literals) (slice_index_or literals i (pos 0))
