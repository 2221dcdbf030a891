-- Rows: truth values at the positions of a stem and a cycle, which goes on for ever.
use Rattle.std.specs.Prelude.{◌≡◌, ℕ, ◌+◌, ◌-◌, ◌%◌, ◌<◌, nat_lt, cond, Bool, false, IsTrue, List, length, slice_index_or}
use Rattle.std.specs.Bool.{Decides}
use Rattle.hy_formula.specs.Trees.{Tree}
use Rattle.hy_formula.specs.Temporal.{endless, Words, SatisfiesAt}

-- the truth value at a place of the row
abbrev pub value_at : List Bool → ℕ → Bool
value_at row i = slice_index_or row i false

-- the place of a position, where c places are gone round from s on
abbrev pub place : ℕ → ℕ → ℕ → ℕ
place s c i = cond (nat_lt i s) i (s + (i - s) % c)

-- the truth value at a position, where the row is gone round from s on
abbrev pub around : ℕ → List Bool → ℕ → Bool
around s row i = value_at row (place s (length row - s) i)

-- It is true at a position.
abbrev pub Says : ℕ → List Bool → ℕ → Type 0
Says s row i = IsTrue (around s row i)

-- The row of m places, gone round from s on, says at each position whether P holds there.
pub record Tells (s m : ℕ) (row : List Bool) (P : ℕ → Type 0) : Type 0 where
  pub some : s < m
  pub long : length row ≡ m
  pub right : (i : ℕ) → Decides (around s row i) (P i)

-- The row says at each position whether the tree holds there.
pub record IsRowOf (tree : Tree) (words : Words) (s m : ℕ) (row : List Bool) : Type 0 where
  pub told : Tells s m row (SatisfiesAt endless words tree)
