-- What the parts of the reader of lasso lines answer.
use Rattle.std.specs.Prelude.{◌≡◌, ℕ, ◌⊎◌, Bool, true, false, List, [], ◌∷◌, ◌++◌, map, Option, Some, None}
use denote.Ref.{Bor}
use Rattle.hy_bits.specs.Letter.{Letter}
use Rattle.hy_formula.specs.Lassos.{Lasso}
use Rattle.hy_text.specs.Lines.{SaysNothing}
use Rattle.hy_text.specs.Sets.{letter_of}
use Rattle.hy_text.specs.Words.{SpellsWord}
use Rattle.hy_lasso.specs.LassoLines.{Spelled, lasso_of, SpellsStem, SaysLasso, IsFaulty}

-- A stem and its bar stand at the front of the text, and these are its letters and what stands
-- behind the bar, or none do.
abbrev pub IsStemFound : List (List ℕ) → List ℕ → List Letter → Option (Bor (List ℕ)) → Type 0
IsStemFound table text letters None =
    (sets : List (List (List ℕ))) (rest : List ℕ) → ¬ SpellsStem text sets rest
IsStemFound table text letters (Some rest) =
    (sets : List (List (List ℕ))) × SpellsStem text sets rest.now
    × (letters ≡ map (letter_of table) sets)

-- The whole text is a word, and these are its letters, or it is none.
abbrev pub IsCycleFound : List (List ℕ) → List ℕ → List Letter → Bool → Type 0
IsCycleFound table text letters false = (sets : List (List (List ℕ))) → ¬ SpellsWord text sets []
IsCycleFound table text letters true =
    (sets : List (List (List ℕ))) × SpellsWord text sets [] × (letters ≡ map (letter_of table) sets)

-- The line is a text, and its lasso has been added where it says one; or it is none.
abbrev pub IsTaken : List (List ℕ) → List ℕ → List (Lasso Letter) → List (Lasso Letter) → Bool
    → Type 0
IsTaken table line old new false = IsFaulty line
IsTaken table line old new true =
    (SaysNothing line × (new ≡ old))
    ⊎ ((said : Spelled) × SaysLasso line said × (new ≡ old ++ lasso_of table said ∷ []))
