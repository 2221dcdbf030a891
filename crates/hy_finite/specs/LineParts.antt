-- What the parts of the reader of event lines answer.
use Rattle.std.specs.Prelude.{◌≡◌, ℕ, ◌<◌, ◌≤◌, List, [], ◌∷◌, length, map, Option, Some, None, Result, Ok, Err, codes}
use denote.Ref.{Bor}
use Rattle.hy_bits.specs.Letter.{Letter as NameSet}
use Rattle.hy_text.specs.Sets.{letter_of, SpellsSet}
use Rattle.hy_text.specs.Words.{SpellsWord}
use Rattle.hy_text.specs.Bytes.{past_blanks}
use Rattle.hy_finite.specs.declared.begun.Begun.{Begun}
use Rattle.hy_finite.specs.declared.begun.Begun.TheVariants.{Nothing, Word, Letter, End, Save, Back}
use Rattle.hy_finite.specs.declared.checks.LineCheck.{LineCheck}
use Rattle.hy_finite.specs.declared.checks.LineCheck.TheVariants.{Good, TooLong, Fault}
use Rattle.hy_text.specs.declared.line_error.LineError.{LineError}
use Rattle.hy_text.specs.declared.line_error.LineError.TheVariants.{Syntax, Limit, Memory}
use Rattle.hy_finite.specs.EventLines.{Said, finish, save, back, SaysNothing, session_at, IsOnly, Spells, IsFaulty, IsTooLong, IsGood}
use Rattle.hy_finite.specs.Traces.{most_letters}

abbrev pub plain_number : ℕ × Bor (List ℕ) → ℕ × List ℕ
plain_number pair = (pair.0, pair.1.now)

-- What a text that is not blank and no comment is by how it begins; it may still be none.
abbrev pub IsBegunHere : List ℕ → Option Begun → Type 0
IsBegunHere text None = (said : Said) → ¬ Spells text said
IsBegunHere text (Some Nothing) = ⊥
IsBegunHere text (Some (Word here)) = (here.now ≡ text) × ((inner : List ℕ) × (text ≡ 123 ∷ inner))
IsBegunHere text (Some (Letter n set)) =
    (session_at text ≡ Some (n, set.now)) × (¬ IsOnly set.now (codes "end"))
IsBegunHere text (Some (End n)) = Spells text (finish n)
IsBegunHere text (Some Save) = Spells text save
IsBegunHere text (Some Back) = Spells text back

-- What a line is by how it begins.
abbrev pub IsBegun : List ℕ → Option Begun → Type 0
IsBegun line (Some Nothing) = SaysNothing line
IsBegun line begun = (¬ SaysNothing line) × IsBegunHere (past_blanks line) begun

-- whether a line is a text, and no trace that is too long
abbrev pub IsChecked : List ℕ → LineCheck → Type 0
IsChecked line Good = IsGood line
IsChecked line TooLong = IsTooLong line
IsChecked line Fault = IsFaulty line

-- whether a text is a word of sets, and not too long
abbrev pub IsWordChecked : List ℕ → LineCheck → Type 0
IsWordChecked text Good =
    (sets : List (List (List ℕ))) × SpellsWord text sets [] × (length sets ≤ most_letters)
IsWordChecked text TooLong =
    (sets : List (List (List ℕ))) × SpellsWord text sets [] × (most_letters < length sets)
IsWordChecked text Fault = (sets : List (List (List ℕ))) → ¬ SpellsWord text sets []

-- whether a text is a set
abbrev pub IsSetChecked : List ℕ → LineCheck → Type 0
IsSetChecked text Good =
    (names : List (List ℕ)) × (rest : List ℕ) × SpellsSet text names rest × (past_blanks rest ≡ [])
IsSetChecked text TooLong = ⊥
IsSetChecked text Fault =
    (names : List (List ℕ)) (rest : List ℕ) → SpellsSet text names rest → ¬ (past_blanks rest ≡ [])

-- The whole text is a trace and this is it, or it is too long, or no word of sets.
abbrev pub IsTraceAnswer : List (List ℕ) → List ℕ → Result (List NameSet) LineError → Type 0
IsTraceAnswer table text (Ok trace) =
    (sets : List (List (List ℕ))) × SpellsWord text sets [] × (length sets ≤ most_letters) ×
    (trace ≡ map (letter_of table) sets)
IsTraceAnswer table text (Err (Syntax n)) =
    (n ≡ 1) × ((sets : List (List (List ℕ))) → ¬ SpellsWord text sets [])
IsTraceAnswer table text (Err Limit) =
    (sets : List (List (List ℕ))) × SpellsWord text sets [] × (most_letters < length sets)
IsTraceAnswer table text (Err Memory) = Unit {0}

-- The whole text is a set and this is its letter, or it is none.
abbrev pub IsSetAnswer : List (List ℕ) → List ℕ → Option NameSet → Type 0
IsSetAnswer table text None =
    (names : List (List ℕ)) (rest : List ℕ) → SpellsSet text names rest → ¬ (past_blanks rest ≡ [])
IsSetAnswer table text (Some letter) =
    (names : List (List ℕ)) × (rest : List ℕ) × SpellsSet text names rest ×
    (past_blanks rest ≡ []) × (letter ≡ letter_of table names)
