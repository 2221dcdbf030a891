-- The numbers of a body's indexed atoms: the places of their first occurrences.
use Rattle.std.specs.Prelude.{ℕ, suc, Bool, true, ◌&&◌, cond, List, [], ◌∷◌, slice_index_or}
use Rattle.std.specs.List.{list_any}
use Rattle.hy_formula.specs.Atoms.{IndexedAtom, is_atom}
use Rattle.hy_formula.specs.Trees.{Tree, always, never, atom, not, next, finally, globally, and, or, implies, iff, until, release, weak}

abbrev pub no_atom : IndexedAtom
no_atom = record { name = 0; variable = 0 }

abbrev pub atom_at : List IndexedAtom → ℕ → IndexedAtom
atom_at atoms k = slice_index_or atoms k no_atom

-- the place of an atom, or past them all
abbrev pub number_in : List IndexedAtom → ℕ → ℕ → ℕ
number_in [] name variable = 0
number_in (a ∷ atoms) name variable =
    cond (is_atom name variable a) 0 (suc (number_in atoms name variable))

-- each atom by its number, of the one variable
abbrev pub numbered : List IndexedAtom → Tree → Tree
numbered atoms always = always
numbered atoms never = never
numbered atoms (atom name variable) = atom (number_in atoms name variable) 0
numbered atoms (not f) = not (numbered atoms f)
numbered atoms (next f) = next (numbered atoms f)
numbered atoms (finally f) = finally (numbered atoms f)
numbered atoms (globally f) = globally (numbered atoms f)
numbered atoms (and f g) = and (numbered atoms f) (numbered atoms g)
numbered atoms (or f g) = or (numbered atoms f) (numbered atoms g)
numbered atoms (implies f g) = implies (numbered atoms f) (numbered atoms g)
numbered atoms (iff f g) = iff (numbered atoms f) (numbered atoms g)
numbered atoms (until f g) = until (numbered atoms f) (numbered atoms g)
numbered atoms (release f g) = release (numbered atoms f) (numbered atoms g)
numbered atoms (weak f g) = weak (numbered atoms f) (numbered atoms g)

-- whether the list has each atom of a tree
abbrev pub are_in : List IndexedAtom → Tree → Bool
are_in atoms always = true
are_in atoms never = true
are_in atoms (atom name variable) = list_any (is_atom name variable) atoms
are_in atoms (not f) = are_in atoms f
are_in atoms (next f) = are_in atoms f
are_in atoms (finally f) = are_in atoms f
are_in atoms (globally f) = are_in atoms f
are_in atoms (and f g) = are_in atoms f && are_in atoms g
are_in atoms (or f g) = are_in atoms f && are_in atoms g
are_in atoms (implies f g) = are_in atoms f && are_in atoms g
are_in atoms (iff f g) = are_in atoms f && are_in atoms g
are_in atoms (until f g) = are_in atoms f && are_in atoms g
are_in atoms (release f g) = are_in atoms f && are_in atoms g
are_in atoms (weak f g) = are_in atoms f && are_in atoms g
