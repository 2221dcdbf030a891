-- Joint letters that tell all that the atoms of a body ask, and their codes.
use Rattle.std.specs.Prelude.{◌≡◌, ℕ, zero, suc, ◌+◌, ◌-◌, Bool, false, not, ◌&&◌, nat_eq, List, [], ◌∷◌, ◌++◌, length, take, map, slice_index_or, slice_set}
use Rattle.std.specs.List.{Contains, list_any}
use Rattle.std.specs.FinSet.{empty, contains, insert}
use Rattle.hy_bits.specs.Letter.{Letter}
use Rattle.hy_formula.specs.Atoms.{IndexedAtom, is_atom}
use Rattle.fin_monitor.specs.Codes.{code_of, joint_letter}
use Rattle.fin_monitor.specs.Machines.{Machine}

-- a letter for each of four variables
abbrev pub Row : Type 0
Row = List Letter

-- whether the row has a name for a variable
abbrev pub says : Row → ℕ → ℕ → Bool
says row name variable = contains (slice_index_or row variable empty) name

-- the row with a name for a variable besides
abbrev pub with_name : ℕ → ℕ → Row → Row
with_name name variable row =
    slice_set row variable (insert (slice_index_or row variable empty) name)

-- whether some atom asks for the name of the variable, and the place is another one
abbrev pub is_asked : List IndexedAtom → ℕ → ℕ → ℕ → Bool
is_asked atoms place name variable =
    list_any (is_atom name variable) atoms && not (nat_eq variable place)

-- Of what is asked the row says what the joint letter does, and nothing else.
abbrev pub IsAnswer : List IndexedAtom → ℕ → (ℕ → ℕ → Bool) → Row → Type 0
IsAnswer atoms place letter row =
    (name variable : ℕ) → says row name variable
    ≡ (is_asked atoms place name variable && letter name variable)

-- The rows have an answer to each joint letter, and say nothing of the place.
pub record AreRows (atoms : List IndexedAtom) (place : ℕ) (rows : List Row) : Type 0 where
  pub long : (row : Row) → Contains rows row → length row ≡ 4
  pub answers : (letter : ℕ → ℕ → Bool) → (row : Row) × Contains rows row
      × IsAnswer atoms place letter row
  pub silent : (row : Row) → Contains rows row → (name : ℕ) → says row name place ≡ false

-- the code of what a row says for the variables
abbrev pub row_code : Machine → Row → ℕ
row_code m row = code_of (joint_letter (take m.variables row)) m.atoms

-- the row with its first two letters exchanged
abbrev pub turned : Row → Row
turned row = slice_index_or row 1 empty ∷ slice_index_or row 0 empty ∷ []

-- the code of what a row says with its letters exchanged
abbrev pub turned_code : Machine → Row → ℕ
turned_code m row = code_of (joint_letter (turned row)) m.atoms

-- the letters of a variable in the rows with these numbers
abbrev pub word_of : List Row → List ℕ → ℕ → List Letter
word_of rows path variable =
    map (λ k. slice_index_or (slice_index_or rows k []) variable empty) path

-- those of so many variables, from one on
abbrev pub words_from : List Row → List ℕ → ℕ → ℕ → List (List Letter)
words_from rows path from zero = []
words_from rows path from (suc count) =
    words_from rows path from count ++ word_of rows path (from + count) ∷ []

-- those of all variables but the one of a place
abbrev pub other_words : List Row → List ℕ → ℕ → ℕ → List (List Letter)
other_words rows path vars place =
    words_from rows path 0 place ++ words_from rows path (place + 1) (vars - (place + 1))
