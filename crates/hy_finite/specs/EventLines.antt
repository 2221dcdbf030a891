-- What a line of a trace file says:
--
--     event line := word | '@' number set | '@' number 'end' | '!save' | '!back'
--
-- Space, tab and carriage return are ignored between these parts, but not inside `!save`, `!back` and `end`, nor
-- between `@` and its number. A number is 1 to 9 digits without a leading zero, or `0`.
use Rattle.std.specs.Prelude.{◌≡◌, ℕ, ◌+◌, ◌*◌, ◌-◌, ◌<◌, ◌≤◌, ◌⊎◌, Bool, not, ◌&&◌, ◌||◌, nat_eq, nat_le, if◌then◌else◌, List, [], ◌∷◌, ◌++◌, length, drop, Option, Some, None, codes}
use Rattle.std.specs.List.{fold, take_while, starts_with}
use Rattle.std.specs.Option.{option_map}
use Rattle.hy_text.specs.Bytes.{past_blanks, is_digit}
pub use Rattle.hy_text.specs.Lines.{SaysNothing}
use Rattle.hy_text.specs.Sets.{SpellsSet}
use Rattle.hy_text.specs.Words.{SpellsWord}
use Rattle.hy_finite.specs.Traces.{most_letters}

-- 1 to 9 digits, the first of which is 0 only where it is the only one
abbrev pub is_number : List ℕ → Bool
is_number digits =
    nat_le 1 (length digits) && nat_le (length digits) 9
    && (nat_eq (length digits) 1 || not (starts_with nat_eq digits (codes "0")))

-- the number that the digits are
abbrev pub decimal : List ℕ → ℕ
decimal digits = fold (λ n digit. n * 10 + (digit - 48)) 0 digits

-- the number at the front of a text, and what stands behind it
abbrev pub number_at : List ℕ → Option (ℕ × List ℕ)
number_at text =
    let digits = take_while is_digit text in
    if is_number digits then Some (decimal digits, drop (length digits) text) else None

abbrev pub behind_blanks : ℕ × List ℕ → ℕ × List ℕ
behind_blanks pair = (pair.0, past_blanks pair.1)

-- the session at the front of a text, `@` and a number, and what stands behind it and blanks
abbrev pub session_at : List ℕ → Option (ℕ × List ℕ)
session_at [] = None
session_at (b ∷ inner) = if nat_eq b 64 then option_map behind_blanks (number_at inner) else None

-- what a line says, its sets by their names
pub data Said : Type 0 where
  word : List (List (List ℕ)) → Said
  letter : ℕ → List (List ℕ) → Said
  finish : ℕ → Said
  save : Said
  back : Said

-- The text is these bytes and blanks.
abbrev pub IsOnly : List ℕ → List ℕ → Type 0
IsOnly text bytes = (rest : List ℕ) × (text ≡ bytes ++ rest) × (past_blanks rest ≡ [])

-- The text says this.
abbrev pub Spells : List ℕ → Said → Type 0
Spells text (word sets) = SpellsWord text sets []
Spells text (letter n names) =
    (behind rest : List ℕ) × (session_at text ≡ Some (n, behind)) × SpellsSet behind names rest ×
    (past_blanks rest ≡ [])
Spells text (finish n) =
    (behind : List ℕ) × (session_at text ≡ Some (n, behind)) × IsOnly behind (codes "end")
Spells text save = IsOnly text (codes "!save")
Spells text back = IsOnly text (codes "!back")

-- The line says this.
abbrev pub Says : List ℕ → Said → Type 0
Says line said = Spells (past_blanks line) said

-- A whole trace has at most 1,024 letters.
abbrev pub IsShort : Said → Type 0
IsShort (word sets) = length sets ≤ most_letters
IsShort _ = Unit {0}

-- The line is no text.
pub record IsFaulty (line : List ℕ) : Type 0 where
  pub speaks : ¬ SaysNothing line
  pub none : (said : Said) → ¬ Says line said

-- The line is a whole trace of too many letters.
pub record IsTooLong (line : List ℕ) : Type 0 where
  pub sets : List (List (List ℕ))
  pub says : Says line (word sets)
  pub long : most_letters < length sets

-- The line is a text.
abbrev pub IsText : List ℕ → Type 0
IsText line = SaysNothing line ⊎ ((said : Said) × Says line said)

-- The line is a text, and no trace that is too long.
abbrev pub IsGood : List ℕ → Type 0
IsGood line = SaysNothing line ⊎ ((said : Said) × Says line said × IsShort said)
