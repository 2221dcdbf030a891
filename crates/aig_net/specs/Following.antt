-- Rows of values that follow from a row of latch values and rows of inputs, one after the other.
use Rattle.std.specs.Prelude.{◌≡◌, ℕ, ◌<◌, Bool, List, [], ◌∷◌, map, length, slice_index_or, IsTrue}
use Rattle.aig_net.specs.declared.parts.Reset.{Reset}
use Rattle.aig_net.specs.Nets.{Net, variables, reset_at, literal_at, IsRight, ResetTo, AllTrue, literal_value}
use Rattle.hy_base.specs.Rows.{row}
use Rattle.aig_net.specs.Rows.{input_row, latch_row}

-- the values of literals
abbrev pub values_of : List ℕ → List Bool → List Bool
values_of literals values = map (literal_value (row values)) literals

-- the latch values that come next
abbrev pub next_row : Net → List Bool → List Bool
next_row net values = values_of net.latches values

-- Each latch may start with its value.
pub record IsStartRow (resets : List Reset) (values : List Bool) : Type 0 where
  pub many : length values ≡ length resets
  pub starts : (j : ℕ) → j < length resets → ResetTo (reset_at resets j) (row values j)

-- The values have right gates, keep the constraints, and are these at the latches and inputs.
pub record IsState (net : Net) (before given values : List Bool) : Type 0 where
  pub full : length values ≡ variables net
  pub right : IsRight net (row values)
  pub kept : AllTrue net.constraints (row values)
  pub latches : latch_row net values ≡ before
  pub inputs : input_row net values ≡ given

-- From these latch values the inputs lead through these rows to the last latch values.
abbrev pub Follows : Net → List Bool → List (List Bool) → List (List Bool) → List Bool → Type 0
Follows net latches [] [] last = last ≡ latches
Follows net latches (given ∷ inputs) (values ∷ rows) last =
    IsState net latches given values × Follows net (next_row net values) inputs rows last
Follows net latches _ _ last = ⊥

abbrev pub row_at : List (List Bool) → ℕ → List Bool
row_at rows k = slice_index_or rows k []

-- Each row has one value for each variable.
abbrev pub AreFull : Net → List (List Bool) → Type 0
AreFull net rows = (k : ℕ) → k < length rows → length (row_at rows k) ≡ variables net

-- The literal is true in some row.
pub record IsSeen (rows : List (List Bool)) (literal : ℕ) : Type 0 where
  pub place : ℕ
  pub below : place < length rows
  pub seen : IsTrue (literal_value (row (row_at rows place)) literal)

abbrev pub AreSeen : List (List Bool) → List ℕ → Type 0
AreSeen rows literals = (j : ℕ) → j < length literals → IsSeen rows (literal_at literals j)

-- There is a cycle, its end leads to its first latch values, and each fairness literal is true in it.
pub record IsRound (net : Net) (cycle : List (List Bool)) (last : List Bool) : Type 0 where
  pub some : 0 < length cycle
  pub back : latch_row net (row_at cycle 0) ≡ last
  pub fair : AreSeen cycle net.fairs
