-- The codes of joint letters: bit i of a code says whether indexed atom i holds.
use Rattle.std.specs.Prelude.{ℕ, suc, ◌+◌, ◌*◌, Bool, true, false, ◌&&◌, cond, nat_eq, List, [], ◌∷◌, slice_index_or}
use Rattle.std.specs.FinSet.{empty, contains}
use Rattle.hy_bits.specs.Binary.{has_one}
use Rattle.hy_bits.specs.Letter.{Letter as NameSet}
use Rattle.hy_formula.specs.Atoms.{IndexedAtom, is_atom}

abbrev pub one_if : Bool → ℕ
one_if true = 1
one_if false = 0

-- the code of a joint letter, which says of each name and variable whether the name is there
abbrev pub code_of : (ℕ → ℕ → Bool) → List IndexedAtom → ℕ
code_of letter [] = 0
code_of letter (a ∷ atoms) = one_if (letter a.name a.variable) + 2 * code_of letter atoms

-- what a code says, the first atom of the list at bit i
abbrev pub letter_from : ℕ → List IndexedAtom → ℕ → ℕ → ℕ → Bool
letter_from i [] code name variable = false
letter_from i (a ∷ atoms) code name variable =
    cond (is_atom name variable a) (has_one code i) (letter_from (suc i) atoms code name variable)

-- the joint letter of a code
abbrev pub letter_of : List IndexedAtom → ℕ → ℕ → ℕ → Bool
letter_of atoms code name variable = letter_from 0 atoms code name variable

-- the joint letter of one letter for each variable
abbrev pub joint_letter : List NameSet → ℕ → ℕ → Bool
joint_letter letters name variable = contains (slice_index_or letters variable empty) name

-- the part of the code of a joint letter that comes from the letter of one variable
abbrev pub part_of : List IndexedAtom → ℕ → NameSet → ℕ
part_of atoms variable letter = code_of (λ n v. nat_eq v variable && contains letter n) atoms
