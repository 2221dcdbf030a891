-- How lassos are printed: a line for each, its stem, a bar and its cycle.
use Rattle.std.specs.Prelude.{ℕ, List, [], ◌∷◌, ◌++◌, map, All}
use Rattle.hy_bits.specs.Letter.{Letter}
use Rattle.hy_formula.specs.Lassos.{Lasso}
use Rattle.hy_text.specs.Sets.{IsOver, members_of}
use Rattle.hy_text.specs.Words.{printed_word}
use Rattle.hy_lasso.specs.LassoLines.{Spelled}

-- the line of a lasso
abbrev pub printed_line : List (List ℕ) → Lasso Letter → List ℕ
printed_line table l = printed_word table l.stem ++ 124 ∷ printed_word table l.cycle

-- the line and its line feed
abbrev pub printed_lasso : List (List ℕ) → Lasso Letter → List ℕ
printed_lasso table l = printed_line table l ++ 10 ∷ []

abbrev pub printed_lassos : List (List ℕ) → List (Lasso Letter) → List ℕ
printed_lassos table [] = []
printed_lassos table (l ∷ ls) = printed_lasso table l ++ printed_lassos table ls

-- a lasso as it is printed, its sets by the names of the table
abbrev pub spelled_of : List (List ℕ) → Lasso Letter → Spelled
spelled_of table l =
    record { stem = map (members_of table) l.stem; cycle = map (members_of table) l.cycle }

-- Each name of the lasso is one of the table.
pub record IsLassoOver (table : List (List ℕ)) (l : Lasso Letter) : Type 0 where
  pub stem : All (IsOver table) l.stem
  pub cycle : All (IsOver table) l.cycle
