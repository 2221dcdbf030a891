-- What comes next of the lines that are left.
use Rattle.std.specs.Prelude.{◌≡◌, ℕ, suc, ◌⊎◌, List, [], ◌∷◌, Option, Some, None, Result, Ok, Err}
use denote.Ref.{Bor}
use Rattle.hy_formula.specs.Quantifiers.{Each}
use Rattle.hy_finite.specs.declared.event.Placed.{Placed}
use Rattle.hy_text.specs.declared.line_error.LineError.{LineError}
use Rattle.hy_text.specs.declared.line_error.LineError.TheVariants.{Syntax, Limit, Memory}
use Rattle.hy_finite.specs.EventLines.{Said, SaysNothing, Says, IsShort, IsFaulty, IsTooLong}
use Rattle.hy_finite.specs.EventFiles.{event_of}
use Rattle.hy_finite.specs.LinesLeft.{LinesLeft}

-- Of the lines, of which the first has number n, line k is the first that says something, and these are behind it.
abbrev pub Reaches : ℕ → List (List ℕ) → ℕ → List ℕ → List (List ℕ) → Type 0
Reaches n [] k line rest = ⊥
Reaches n (x ∷ xs) k line rest =
    (SaysNothing x × Reaches (suc n) xs k line rest)
    ⊎ ((¬ SaysNothing x) × (k ≡ n) × (line ≡ x) × (rest ≡ xs))

-- The next line that says something, or there is none, and no line is left.
abbrev pub IsNextLine : LinesLeft → LinesLeft → Option (ℕ × Bor (List ℕ)) → Type 0
IsNextLine old new None = Each SaysNothing old.lines × (new.lines ≡ [])
IsNextLine old new (Some (k, line)) =
    Reaches old.first old.lines k line.now new.lines × (new.first ≡ suc k)

-- The next event, or there is none, and no line is left; or the next line that says something is no text, or a trace
-- that is too long.
abbrev pub IsNextAnswer : List (List ℕ) → LinesLeft → LinesLeft → Result
    (Option Placed) LineError → Type 0
IsNextAnswer table old new (Ok None) = Each SaysNothing old.lines × (new.lines ≡ [])
IsNextAnswer table old new (Ok (Some placed)) =
    (line : List ℕ) × (said : Said) × Reaches old.first old.lines placed.line line new.lines
    × (new.first ≡ suc placed.line) × Says line said × IsShort said ×
    (placed.event ≡ event_of table said)
IsNextAnswer table old new (Err (Syntax k)) =
    (new ≡ old) × ((line : List ℕ) × (rest : List (List ℕ)) × Reaches old.first old.lines k line
    rest × IsFaulty line)
IsNextAnswer table old new (Err Limit) =
    (new ≡ old) × ((k : ℕ) × (line : List ℕ) × (rest : List
    (List ℕ)) × Reaches old.first old.lines k line rest × IsTooLong line)
IsNextAnswer table old new (Err Memory) = new ≡ old
