-- The atoms of a body, the first occurrence of each, and the names that stand in them.
use Rattle.std.specs.Prelude.{ℕ, ◌<◌, ◌≡◌, Bool, true, false, ◌&&◌, ◌||◌, cond, nat_eq, List, [], ◌∷◌, ◌++◌, length}
use Rattle.std.specs.List.{list_any}
use Rattle.hy_formula.specs.declared.atom.Atom.{Atom}
use Rattle.hy_formula.specs.Trees as tree
use Rattle.hy_formula.specs.Trees.{Tree}

-- whether the name, by its number, stands in an atom
abbrev pub has_name : Tree → ℕ → Bool
has_name (tree.atom a v) name = nat_eq a name
has_name (tree.not f) name = has_name f name
has_name (tree.next f) name = has_name f name
has_name (tree.finally f) name = has_name f name
has_name (tree.globally f) name = has_name f name
has_name (tree.and f g) name = has_name f name || has_name g name
has_name (tree.or f g) name = has_name f name || has_name g name
has_name (tree.implies f g) name = has_name f name || has_name g name
has_name (tree.iff f g) name = has_name f name || has_name g name
has_name (tree.until f g) name = has_name f name || has_name g name
has_name (tree.release f g) name = has_name f name || has_name g name
has_name (tree.weak f g) name = has_name f name || has_name g name
has_name _ name = false

-- a name of the letters of a variable
pub record IndexedAtom : Type 0 where
  pub name : ℕ
  pub variable : ℕ

abbrev pub plain_atom : Atom → IndexedAtom
plain_atom a = record { name = a.name; variable = a.var }

abbrev pub is_atom : ℕ → ℕ → IndexedAtom → Bool
is_atom name variable a = nat_eq a.name name && nat_eq a.variable variable

-- the atom last, where it is new
abbrev pub with_atom : ℕ → ℕ → List IndexedAtom → List IndexedAtom
with_atom name variable known =
    cond (list_any (is_atom name variable) known) known (known ++ record { name = name; variable = variable } ∷ [])

-- the known atoms, and behind them those of a tree, each where it stands first
abbrev pub with_atoms : Tree → List IndexedAtom → List IndexedAtom
with_atoms tree.always known = known
with_atoms tree.never known = known
with_atoms (tree.atom name variable) known = with_atom name variable known
with_atoms (tree.not f) known = with_atoms f known
with_atoms (tree.next f) known = with_atoms f known
with_atoms (tree.finally f) known = with_atoms f known
with_atoms (tree.globally f) known = with_atoms f known
with_atoms (tree.and f g) known = with_atoms g (with_atoms f known)
with_atoms (tree.or f g) known = with_atoms g (with_atoms f known)
with_atoms (tree.implies f g) known = with_atoms g (with_atoms f known)
with_atoms (tree.iff f g) known = with_atoms g (with_atoms f known)
with_atoms (tree.until f g) known = with_atoms g (with_atoms f known)
with_atoms (tree.release f g) known = with_atoms g (with_atoms f known)
with_atoms (tree.weak f g) known = with_atoms g (with_atoms f known)

-- the different indexed atoms of a body, in the order of their first occurrence
abbrev pub atoms_of : Tree → List IndexedAtom
atoms_of body = with_atoms body []

-- The atoms of a tree were added to those that were known, or there are more than so many then.
abbrev pub AreAdded : ℕ → Tree → List IndexedAtom → List IndexedAtom → Bool → Type 0
AreAdded most f known found true = found ≡ with_atoms f known
AreAdded most f known found false = most < length (with_atoms f known)
