-- From where on, and after how many positions, all lassos of a tuple repeat together.
use Rattle.std.specs.Prelude.{◌≡◌, ℕ, ◌+◌, ◌*◌, ◌<◌, ◌≤◌, List, length, slice_index_or}
use Rattle.hy_bits.specs.Letter.{Letter}
use Rattle.hy_formula.specs.Lassos.{Lasso}
use Rattle.hy_lasso.specs.Words.{no_lasso}

abbrev pub IsMultiple : ℕ → ℕ → Type 0
IsMultiple c n = (k : ℕ) × (c ≡ k * n)

-- No stem is longer than s, and c is a common multiple of the lengths of the cycles.
pub record IsPeriod (tuple : List (Lasso Letter)) (s c : ℕ) : Type 0 where
  pub some : 0 < c
  pub stems : (v : ℕ) → v < length tuple → length (slice_index_or tuple v no_lasso).stem ≤ s
  pub cycles : (v : ℕ) → v < length tuple
      → IsMultiple c (length (slice_index_or tuple v no_lasso).cycle)

-- The longest stem has length s, and the least common multiple is c.
pub record IsLeastPeriod (tuple : List (Lasso Letter)) (s c : ℕ) : Type 0 where
  pub period : IsPeriod tuple s c
  pub least : (t d : ℕ) → IsPeriod tuple t d → (s ≤ t) × IsMultiple d c

-- most positions of a stem and a cycle together
abbrev pub most_positions : ℕ
most_positions = 4194304

-- The longest stem and the least common multiple have together at most that many positions: some
-- period has.
abbrev pub IsJudged : List (Lasso Letter) → Type 0
IsJudged tuple = (s c : ℕ) × IsPeriod tuple s c × (s + c ≤ most_positions)

-- a common multiple of two numbers
pub record IsCommon (c n d : ℕ) : Type 0 where
  pub some : 0 < d
  pub first : IsMultiple d c
  pub second : IsMultiple d n

-- the least common multiple of two numbers
pub record IsLeastCommon (c n m : ℕ) : Type 0 where
  pub common : IsCommon c n m
  pub least : (d : ℕ) → IsCommon c n d → m ≤ d
