-- What the readers answer, without where their texts lie in memory.
use Rattle.std.specs.Prelude.{◌≡◌, ℕ, List, Option, Some, None, ◌++◌, length, map, take}
use denote.Ref.{Bor}
use Rattle.hy_bits.specs.Letter.{Letter}
use Rattle.hy_text.specs.declared.sets.SetRead.{SetRead}
use Rattle.hy_text.specs.declared.words.WordRead.{WordRead}
use Rattle.hy_text.specs.Sets.{SpellsNames, SpellsSet, letter_of}
use Rattle.hy_text.specs.Words.{SpellsWord}

abbrev pub plain_pair : Bor (List ℕ) × Bor (List ℕ) → List ℕ × List ℕ
plain_pair pair = (pair.0.now, pair.1.now)

-- A set stands at the front of the text, and this is its letter and what stands behind it, or none does.
abbrev pub IsSetFound : List (List ℕ) → List ℕ → Option SetRead → Type 0
IsSetFound table text None = (names : List (List ℕ)) (rest : List ℕ) → ¬ SpellsSet text names rest
IsSetFound table text (Some found) =
    (names : List (List ℕ)) × SpellsSet text names found.rest.now × (found.letter ≡ letter_of table names)

-- The same of the names of a set that is not empty, behind its opening brace.
abbrev pub IsMembersFound : List (List ℕ) → List ℕ → Option SetRead → Type 0
IsMembersFound table text None = (names : List (List ℕ)) (rest : List ℕ) → ¬ SpellsNames text names rest
IsMembersFound table text (Some found) =
    (names : List (List ℕ)) × SpellsNames text names found.rest.now × (found.letter ≡ letter_of table names)

-- A word stands at the front of the text, and these are the number of its sets, what stands behind it and, at most
-- this many of the first ones, its letters behind the old ones, or none does.
abbrev pub IsWordHere : List (List ℕ) → ℕ → List Letter → List Letter → List ℕ → Option WordRead → Type 0
IsWordHere table most old letters text None =
    (sets : List (List (List ℕ))) (rest : List ℕ) → ¬ SpellsWord text sets rest
IsWordHere table most old letters text (Some found) =
    (sets : List (List (List ℕ))) × SpellsWord text sets found.rest.now × (found.sets ≡ length sets)
    × (letters ≡ old ++ take most (map (letter_of table) sets))

-- the same, where no letters are added if there is no word
abbrev pub IsWordFound : List (List ℕ) → ℕ → List Letter → List Letter → List ℕ → Option WordRead → Type 0
IsWordFound table most old letters text found =
    IsWordHere table most old letters text found × (found ≡ None → letters ≡ old)
