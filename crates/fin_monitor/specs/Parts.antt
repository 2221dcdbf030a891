-- The names of the atoms of a variable, each with its bit of a code: what a letter has of them is its part of the code.
use Rattle.std.specs.Prelude.{◌≡◌, ℕ, zero, suc, ◌+◌, ◌^◌, ◌&&◌, cond, nat_lt, List, [], ◌∷◌, length, slice_get, slice_index_or, Some}
use Rattle.std.specs.FinSet.{contains}
use Rattle.hy_bits.specs.Letter.{Letter as NameSet}
use Rattle.fin_monitor.specs.declared.name_bit.NameBit.{NameBit}
use Rattle.fin_monitor.specs.declared.variable_parts.VariableParts.{VariableParts}
use Rattle.hy_formula.specs.Atoms.{IndexedAtom}
use Rattle.fin_monitor.specs.Codes.{part_of}

-- the sum of the bits of the names that a letter has
abbrev pub bits_of : List NameBit → NameSet → ℕ
bits_of [] letter = 0
bits_of (n ∷ names) letter = cond (contains letter n.name) (2 ^ n.place) 0 + bits_of names letter

-- The names are those of the atoms of a variable.
abbrev pub AreNamesOf : List NameBit → List IndexedAtom → ℕ → Type 0
AreNamesOf names atoms variable = (letter : NameSet) → bits_of names letter ≡ part_of atoms variable letter

-- as `bits_of`, of the names below a number
abbrev pub bits_below : ℕ → List NameBit → NameSet → ℕ
bits_below k [] letter = 0
bits_below k (n ∷ names) letter = cond (nat_lt n.name k && contains letter n.name) (2 ^ n.place) 0 + bits_below k names letter

-- the number whose bits are the names of a letter below k
abbrev pub low_number : ℕ → NameSet → ℕ
low_number zero letter = 0
low_number (suc k) letter = low_number k letter + cond (contains letter k) (2 ^ k) 0

-- For each set of names below k, at its number, the sum of the bits of those that are listed.
pub record AreLowParts (parts : List ℕ) (names : List NameBit) (k : ℕ) : Type 0 where
  pub long : length parts ≡ 2 ^ k
  pub right : (letter : NameSet) → slice_index_or parts (low_number k letter) 0 ≡ bits_below k names letter

-- the part of a code that a letter gives, as it is looked up
abbrev pub part_in : VariableParts → NameSet → ℕ
part_in parts letter = slice_index_or parts.low (low_number 8 letter) 0 + bits_of parts.high letter

-- The parts are those of a variable.
abbrev pub ArePartsOf : VariableParts → List IndexedAtom → ℕ → Type 0
ArePartsOf parts atoms variable = (letter : NameSet) → part_in parts letter ≡ part_of atoms variable letter

-- for each variable below a number its parts
pub record AreParts (lists : List VariableParts) (atoms : List IndexedAtom) (variables : ℕ) : Type 0 where
  pub long : length lists ≡ variables
  pub each : (v : ℕ) (parts : VariableParts) → slice_get lists v ≡ Some parts → ArePartsOf parts atoms v
