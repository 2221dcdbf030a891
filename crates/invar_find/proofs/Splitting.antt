-- Classes that are joined and split, latch by latch.
use Rattle.std.proofs.Common.{◌≡◌, ℕ, ◌+◌, ◌*◌, ◌<◌, ◌≤◌, ◌⊎◌, Bool, cond, List, length, nat_eq}
use Rattle.std.specs.Prelude.{slice_index}
use Rattle.hy_base.specs.Rows.{row}

abbrev pub joined_class : ℕ → ℕ → ℕ → ℕ
joined_class kept gone c = cond (nat_eq c gone) kept c

-- the first k latches are done
pub record IsJoining (kept gone k : ℕ) (old new : List ℕ) : Type 0 where
  pub many : length new ≡ length old
  pub done : (a : ℕ) → a < k → slice_index new a ≡ joined_class kept gone (slice_index old a)
  pub rest : (a : ℕ) → k ≤ a → slice_index new a ≡ slice_index old a

-- class and value of a latch, as one number
abbrev pub key_of : List ℕ → List Bool → ℕ → ℕ
key_of old state a = 2 * slice_index old a + cond (row state a) 1 0

abbrev pub NONE : ℕ
NONE = 4294967295

-- the first k latches are done
pub record IsSplitting (old : List ℕ) (state : List Bool) (k : ℕ) (new firsts : List ℕ) : Type 0 where
  pub many : length new ≡ length state
  pub room : length firsts ≡ 2 * length state
  pub rest : (a : ℕ) → k ≤ a → slice_index new a ≡ slice_index old a
  pub done : (a : ℕ) → a < k → slice_index new a ≡ slice_index firsts (key_of old state a)
  pub small : (a : ℕ) → a < k → slice_index new a < k
  pub first : (q : ℕ) → q < length firsts → (slice_index firsts q ≡ NONE)
      ⊎ ((slice_index firsts q < k) × (key_of old state (slice_index firsts q) ≡ q))
