-- Rows of values, to be counted.
use Rattle.std.specs.Prelude.{◌≡◌, ℕ, ◌<◌, List, [], length, Contains, slice_index_or}

-- n values below b
pub record IsRow (n b : ℕ) (row : List ℕ) : Type 0 where
  pub long : length row ≡ n
  pub below : (x : ℕ) → Contains row x → x < b

abbrev pub AreRows : ℕ → ℕ → List (List ℕ) → Type 0
AreRows n b rows = (row : List ℕ) → Contains rows row → IsRow n b row

-- no two places have the same row
abbrev pub IsWithoutRepeats : List (List ℕ) → Type 0
IsWithoutRepeats rows = (i j : ℕ) → i < j → j < length rows →
    ¬ (slice_index_or rows i [] ≡ slice_index_or rows j [])
