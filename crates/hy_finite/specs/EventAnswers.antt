-- What the readers of events answer.
use Rattle.std.specs.Prelude.{◌≡◌, ℕ, List, [], Option, Some, None, Result, Ok, Err}
use Rattle.hy_formula.specs.Quantifiers.{Each}
use Rattle.hy_text.specs.Bytes.{past_blanks}
use Rattle.hy_text.specs.Sets.{SpellsSet}
use Rattle.hy_finite.specs.declared.event.Event.{Event}
use Rattle.hy_finite.specs.declared.event.Placed.{Placed}
use Rattle.hy_text.specs.declared.line_error.LineError.{LineError}
use Rattle.hy_text.specs.declared.line_error.LineError.TheVariants.{Syntax, Limit, Memory}
use Rattle.hy_finite.specs.EventLines.{Said, letter, SaysNothing, Says, IsShort, IsFaulty, IsTooLong, IsText, IsGood}
use Rattle.hy_finite.specs.EventFiles.{event_of, lines_of, IsEventFile, FirstFault, SomeTooLong}
use Rattle.hy_finite.specs.LinesLeft.{LinesLeft}

-- The line says nothing, or this event, or it is at fault, or a trace that is too long.
abbrev pub IsLineAnswer : List (List ℕ) → List ℕ → Result (Option Event) LineError → Type 0
IsLineAnswer table line (Ok None) = SaysNothing line
IsLineAnswer table line (Ok (Some event)) =
    (said : Said) × Says line said × IsShort said × (event ≡ event_of table said)
IsLineAnswer table line (Err (Syntax n)) = (n ≡ 1) × IsFaulty line
IsLineAnswer table line (Err Limit) = IsTooLong line
IsLineAnswer table line (Err Memory) = Unit {0}

-- The text is a set, and this is the event of a session's letter, or it is none.
abbrev pub IsLetterAnswer : List (List ℕ) → ℕ → List ℕ → Result (Option Event) LineError → Type 0
IsLetterAnswer table n text (Ok (Some event)) =
    (names : List (List ℕ)) × (rest : List ℕ) × SpellsSet text names rest × (past_blanks rest ≡ [])
    × (event ≡ event_of table (letter n names))
IsLetterAnswer table n text (Err (Syntax k)) =
    (k ≡ 1) × ((names : List (List ℕ)) (rest : List ℕ) → SpellsSet text names rest → ¬
    (past_blanks rest ≡ []))
IsLetterAnswer table n text _ = ⊥

-- why lines are refused: the first that is no text, or that all are and one is a trace that is too long
abbrev pub AreRefused : LinesLeft → LineError → Type 0
AreRefused left (Syntax k) = FirstFault left.first left.lines k
AreRefused left Limit = Each IsText left.lines × SomeTooLong left.lines
AreRefused left Memory = ⊥

-- The lines are taken, or are refused.
abbrev pub AreChecked : LinesLeft → Result (Unit {0}) LineError → Type 0
AreChecked left (Ok _) = Each IsGood left.lines
AreChecked left (Err fault) = AreRefused left fault

-- all lines of a file
abbrev pub all_lines : List ℕ → LinesLeft
all_lines bytes = record { first = 1; lines = lines_of bytes }

-- why a file is refused
abbrev pub IsRefusal : List ℕ → LineError → Type 0
IsRefusal bytes fault = AreRefused (all_lines bytes) fault

-- The file is one of events, or is refused.
abbrev pub IsCheckAnswer : List ℕ → Result (Unit {0}) LineError → Type 0
IsCheckAnswer bytes result = AreChecked (all_lines bytes) result

-- The file is these events, or is refused.
abbrev pub IsFileAnswer : List (List ℕ) → List ℕ → Result (List Placed) LineError → Type 0
IsFileAnswer table bytes (Ok events) = Each IsGood (lines_of bytes) × IsEventFile table bytes events
IsFileAnswer table bytes (Err Memory) = Unit {0}
IsFileAnswer table bytes (Err fault) = IsRefusal bytes fault
