-- Which bytes are a file of lassos, one lasso on a line, and what the reader of such files answers.
use Rattle.std.specs.Prelude.{◌≡◌, ℕ, ◌<◌, ◌⊎◌, List, [], ◌∷◌, length, Result, Ok, Err}
use Rattle.hy_bits.specs.Letter.{Letter}
use Rattle.hy_formula.specs.Lassos.{Lasso}
use Rattle.hy_formula.specs.Quantifiers.{Each}
use Rattle.hy_text.specs.declared.line_error.LineError.{LineError}
use Rattle.hy_text.specs.declared.line_error.LineError.TheVariants.{Syntax, Limit, Memory}
use Rattle.hy_text.specs.Lines.{SaysNothing, FirstFault, lines_of}
use Rattle.hy_lasso.specs.LassoLines.{Spelled, lasso_of, SaysLasso, IsText, IsFaulty}

-- The lines say these lassos.
abbrev pub SayLassos : List (List ℕ) → List (List ℕ) → List (Lasso Letter) → Type 0
SayLassos table [] list = list ≡ []
SayLassos table (line ∷ lines) list =
    (SaysNothing line × SayLassos table lines list)
    ⊎ ((said : Spelled) × (rest : List (Lasso Letter)) × SaysLasso line said
    × (list ≡ lasso_of table said ∷ rest) × SayLassos table lines rest)

-- The file is these lassos, one at least.
pub record IsLassoFile (table : List (List ℕ)) (bytes : List ℕ)
    (list : List (Lasso Letter)) : Type 0 where
  pub some : 0 < length list
  pub say : SayLassos table (lines_of bytes) list

-- Why a file is refused: its first line that is no text; or line 0, where no line is at fault and
-- none says a lasso.
abbrev pub IsRefusal : List ℕ → LineError → Type 0
IsRefusal bytes (Syntax k) =
    FirstFault IsText IsFaulty 1 (lines_of bytes) k ⊎ ((k ≡ 0) × Each SaysNothing (lines_of bytes))
IsRefusal bytes Limit = ⊥
IsRefusal bytes Memory = ⊥

-- The file is these lassos, or is refused.
abbrev pub IsLassosAnswer : List (List ℕ) → List ℕ → Result (List (Lasso Letter)) LineError
    → Type 0
IsLassosAnswer table bytes (Ok list) = IsLassoFile table bytes list
IsLassosAnswer table bytes (Err Memory) = Unit {0}
IsLassosAnswer table bytes (Err fault) = IsRefusal bytes fault
