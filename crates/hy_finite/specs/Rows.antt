-- Rows of truth values in words of 64 bits. A row has a place for each position, the last position at place 0.
use Rattle.std.specs.Prelude.{◌≡◌, ℕ, suc, ◌+◌, ◌*◌, ◌/◌, ◌%◌, ◌<◌, ◌≤◌, Bool, List, length, slice_index_or}
use Rattle.std.specs.Bool.{Decides}
use Rattle.std.specs.FinSet.{empty, contains}
use Rattle.hy_finite.specs.Traces.{Trace}
use Rattle.hy_bits.specs.Binary.{has_one}
use Rattle.hy_formula.specs.Temporal.{Words, below, SatisfiesAt}
use Rattle.hy_formula.specs.Trees.{Tree}
use Rattle.hy_finite.specs.declared.rule.Rule.{Rule}
use Rattle.hy_finite.specs.Rules.{says, carry_at, start}

-- the truth value at place r of the row that begins at word `base`
abbrev pub one_at : List ℕ → ℕ → ℕ → Bool
one_at rows base r = has_one (slice_index_or rows (base + r / 64) 0) (r % 64)

-- The row at `base` says what a body does whose left part the row there said, and its right part the row at `other`.
pub record IsApplied (rule : Rule) (old new : List ℕ) (base other width : ℕ) : Type 0 where
  pub kept : (i : ℕ) → i < base → slice_index_or new i 0 ≡ slice_index_or old i 0
  pub said : (r : ℕ) → r < 64 * width
      → one_at new base r
      ≡ says rule (one_at old base r) (one_at old other r)
      (carry_at rule (one_at old base) (one_at old other) (start rule) r)

-- A row has been put on top that says at each of m positions whether the tree holds of the words there.
pub record IsFilled (tree : Tree) (words : Words) (m width : ℕ) (old new : List ℕ) : Type 0 where
  pub long : length new ≡ length old + width
  pub kept : (i : ℕ) → i < length old → slice_index_or new i 0 ≡ slice_index_or old i 0
  pub told : (i r : ℕ) → i + suc r ≡ m
      → Decides (one_at new (length old) r) (SatisfiesAt (below m) words tree i)

-- A row of one word again and again has been put on top.
pub record IsRepeated (word : ℕ) (width : ℕ) (old new : List ℕ) : Type 0 where
  pub long : length new ≡ length old + width
  pub kept : (i : ℕ) → i < length old → slice_index_or new i 0 ≡ slice_index_or old i 0
  pub same : (i : ℕ) → length old ≤ i → i < length new → slice_index_or new i 0 ≡ word

-- The word has a place for each letter before place `to` of the trace, at most 64, the last at place 0.
abbrev pub IsNamesWord : Trace → ℕ → ℕ → ℕ → ℕ → Type 0
IsNamesWord trace name from to word =
    (i b : ℕ) → from ≤ i → i + suc b ≡ to → has_one word b ≡ contains
    (slice_index_or trace i empty) name
