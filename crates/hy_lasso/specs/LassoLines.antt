-- What a line of a lasso file says:
--
--     lasso line := '|' word | word '|' word
--
-- Space, tab and carriage return are ignored between these parts. A name that the table lacks is
-- passed over.
use Rattle.std.specs.Prelude.{◌≡◌, ℕ, ◌⊎◌, List, [], ◌∷◌, map, Option, Some, None}
use Rattle.hy_bits.specs.Letter.{Letter}
use Rattle.hy_formula.specs.Lassos.{Lasso}
use Rattle.hy_text.specs.Bytes.{past_blanks}
use Rattle.hy_text.specs.Lines.{SaysNothing}
use Rattle.hy_text.specs.Sets.{letter_of}
use Rattle.hy_text.specs.Words.{SpellsWord}

-- a lasso as it is spelled, its sets by their names
abbrev pub Spelled : Type 0
Spelled = Lasso (List (List ℕ))

-- the lasso that is spelled, its names by the numbers that a table gives them
abbrev pub lasso_of : List (List ℕ) → Spelled → Lasso Letter
lasso_of table said =
    record { stem = map (letter_of table) said.stem; cycle = map (letter_of table) said.cycle }

-- The text begins with these sets, maybe none, and a bar, and the rest is behind the bar.
abbrev pub SpellsStem : List ℕ → List (List (List ℕ)) → List ℕ → Type 0
SpellsStem text [] rest = text ≡ 124 ∷ rest
SpellsStem text (names ∷ sets) rest = SpellsWord text (names ∷ sets) (124 ∷ rest)

-- The text is this lasso.
abbrev pub SpellsLasso : List ℕ → Spelled → Type 0
SpellsLasso text said =
    (rest : List ℕ) × SpellsStem text said.stem rest × SpellsWord (past_blanks rest) said.cycle []

-- The line says this lasso.
abbrev pub SaysLasso : List ℕ → Spelled → Type 0
SaysLasso line said = SpellsLasso (past_blanks line) said

-- The line says this lasso, its names by the numbers of the table, or says none.
abbrev pub IsLassoSaid : List (List ℕ) → List ℕ → Option (Lasso Letter) → Type 0
IsLassoSaid table line None = (said : Spelled) → ¬ SaysLasso line said
IsLassoSaid table line (Some lasso) =
    (said : Spelled) × SaysLasso line said × (lasso ≡ lasso_of table said)

-- The line is a text.
abbrev pub IsText : List ℕ → Type 0
IsText line = SaysNothing line ⊎ ((said : Spelled) × SaysLasso line said)

-- The line is no text.
pub record IsFaulty (line : List ℕ) : Type 0 where
  pub speaks : ¬ SaysNothing line
  pub none : (said : Spelled) → ¬ SaysLasso line said
