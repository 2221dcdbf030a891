-- Sets of names, each a letter:
--
--     set := '{' '}' | '{' name (',' name)* '}'
--
-- Space, tab and carriage return are ignored between these parts. A name that the table lacks is passed over.
use Rattle.std.specs.Prelude.{◌≡◌, ℕ, suc, ◌<◌, true, if◌then◌else◌, List, [], ◌∷◌, ◌++◌, length, Option, Some, None, map}
use Rattle.std.specs.List.{fold, join_with_byte}
use Rattle.std.specs.FinSet as set
use Rattle.hy_bits.specs.Letter.{Letter}
use Rattle.hy_formula.specs.Names.{place_of}
use Rattle.hy_text.specs.Bytes.{past_blanks}
use Rattle.hy_text.specs.Names.{name_at, spelled}

-- The text begins with these names, joined by commas and ended by a closing brace, and the rest is behind it.
abbrev pub SpellsNames : List ℕ → List (List ℕ) → List ℕ → Type 0
SpellsNames text [] rest = ⊥
SpellsNames text (name ∷ []) rest =
    (behind : List ℕ) × (name_at text ≡ Some (name, behind)) × (past_blanks behind ≡ 125 ∷ rest)
SpellsNames text (name ∷ more ∷ names) rest =
    (behind next : List ℕ) × (name_at text ≡ Some (name, behind)) × (past_blanks behind ≡ 44 ∷ next)
    × SpellsNames (past_blanks next) (more ∷ names) rest

-- The text inside a set begins with these names, maybe none, and the closing brace.
abbrev pub SpellsMembers : List ℕ → List (List ℕ) → List ℕ → Type 0
SpellsMembers text [] rest = text ≡ 125 ∷ rest
SpellsMembers text (name ∷ names) rest = SpellsNames text (name ∷ names) rest

-- The text begins with the set of these names.
abbrev pub SpellsSet : List ℕ → List (List ℕ) → List ℕ → Type 0
SpellsSet text names rest =
    (inner : List ℕ) × (text ≡ 123 ∷ inner) × SpellsMembers (past_blanks inner) names rest

abbrev pub with_number : Option ℕ → Letter → Letter
with_number (Some k) letter = set.insert letter k
with_number None letter = letter

-- the letter with the number of a name, where the table has it
abbrev pub with_member : List (List ℕ) → Letter → List ℕ → Letter
with_member table letter name = with_number (place_of name table) letter

-- the numbers of those names that the table has
abbrev pub letter_of : List (List ℕ) → List (List ℕ) → Letter
letter_of table names = fold (with_member table) set.empty names

-- those of the names, the first of which has this number, that are in the letter
abbrev pub members_from : ℕ → Letter → List (List ℕ) → List (List ℕ)
members_from k letter [] = []
members_from k letter (name ∷ names) =
    if set.contains letter k
    then name ∷ members_from (suc k) letter names
    else members_from (suc k) letter names

-- the names of the table that are in the letter, by their numbers
abbrev pub members_of : List (List ℕ) → Letter → List (List ℕ)
members_of table letter = members_from 0 letter table

-- how a set of names is printed
abbrev pub braced : List (List ℕ) → List ℕ
braced names = 123 ∷ join_with_byte 44 (map spelled names) ++ 125 ∷ []

-- how a letter is printed
abbrev pub printed_set : List (List ℕ) → Letter → List ℕ
printed_set table letter = braced (members_of table letter)

-- Each name of the letter is one of the table.
abbrev pub IsOver : List (List ℕ) → Letter → Type 0
IsOver table letter = (k : ℕ) → set.contains letter k ≡ true → k < length table
