-- What the steps to a normal form look for.
use Rattle.std.specs.Prelude.{◌≡◌, ◌≢◌, ℕ, ◌+◌, ◌-◌, ◌%◌, ◌<◌, ◌≤◌, List, length, slice_index_or}
use Rattle.std.specs.FinSet.{empty}
use Rattle.hy_bits.specs.Letter.{Letter}

-- the letter at a place
abbrev pub letter_of : List Letter → ℕ → Letter
letter_of letters i = slice_index_or letters i empty

-- Each letter stands again d places later.
abbrev pub RepeatsAfter : List Letter → ℕ → Type 0
RepeatsAfter letters d =
    (i : ℕ) → i + d < length letters → letter_of letters (i + d) ≡ letter_of letters i

-- The letters are a repetition of the first d, and of no fewer.
pub record IsLeastRound (letters : List Letter) (d : ℕ) : Type 0 where
  pub some : 0 < d
  pub whole : length letters % d ≡ 0
  pub few : d ≤ length letters
  pub repeats : RepeatsAfter letters d
  pub least : (e : ℕ) → 0 < e → e < d → length letters % e ≡ 0 → ¬ RepeatsAfter letters e

-- The last k letters of the stem are those that a cycle gone round backwards has, and no more.
pub record IsSharedEnd (stem cycle : List Letter) (k : ℕ) : Type 0 where
  pub few : k ≤ length stem
  pub same : (j : ℕ) → j < k → letter_of stem (length stem - 1 - j)
      ≡ letter_of cycle (length cycle - 1 - j % length cycle)
  pub most : k < length stem → letter_of stem (length stem - 1 - k)
      ≢ letter_of cycle (length cycle - 1 - k % length cycle)
