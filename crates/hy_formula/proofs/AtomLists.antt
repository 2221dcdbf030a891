-- Atoms of bodies in lists: one that is there, and those that a body adds.
use Rattle.std.proofs.Common.{◌≡◌, ◌<◌, ◌≤◌, ℕ, Bool, true, false, ◌&&◌, cond, nat_eq, List, [], ◌∷◌, ◌++◌, length, map, get_or, sym, ap, ◌∙◌, subst, arith, length-append}
use Rattle.std.specs.List.{list_any}
use Rattle.std.proofs.lemmas.List.{get_or-map, length-map}
use Rattle.std.proofs.lemmas.List.Folds.{list_any_at}
use Rattle.hy_formula.specs.declared.atom.Atom.{Atom}
use Rattle.hy_formula.specs.Trees.{Tree, always, never, atom, not, next, finally, globally, and, or, implies, iff, until, release, weak}
use Rattle.hy_formula.specs.Atoms.{IndexedAtom, plain_atom, is_atom, with_atom, with_atoms, AreAdded}

module _ (atoms : List Atom) (a : Atom) (i : ℕ) (x : Atom) (lt : i < length atoms) (at : x ≡ get_or atoms i x)
    (is : (nat_eq x.name a.name && nat_eq x.var a.var) ≡ true) where
  pub atom-inside : i < length (map plain_atom atoms)
  atom-inside = omega (arith, length-map atoms plain_atom)

  pub atom-there : is_atom a.name a.var (get_or (map plain_atom atoms) i (plain_atom x)) ≡ true
  atom-there =
      let P : IndexedAtom → Type 0 = λ y. is_atom a.name a.var y ≡ true in
      subst P (ap plain_atom at ∙ sym (get_or-map plain_atom atoms i x (plain_atom x) lt)) is

  pub atom-known : list_any (is_atom a.name a.var) (map plain_atom atoms) ≡ true
  atom-known = list_any_at (is_atom a.name a.var) (map plain_atom atoms) i (plain_atom x) atom-inside atom-there

-- ---- what a body adds

longer-atom : (name variable : ℕ) (known : List IndexedAtom) → length known ≤ length (with_atom name variable known)
longer-atom name variable known = step (list_any (is_atom name variable) known)
  where
    step : (b : Bool) → length known ≤ length (cond b known (known ++ record { name = name; variable = variable } ∷ []))
    step true = omega arith
    step false = omega (arith, length-append known (record { name = name; variable = variable } ∷ []))

pub longer-atoms : (f : Tree) (known : List IndexedAtom) → length known ≤ length (with_atoms f known)
longer-atoms always known = omega arith
longer-atoms never known = omega arith
longer-atoms (atom n v) known = longer-atom n v known
longer-atoms (not f) known = longer-atoms f known
longer-atoms (next f) known = longer-atoms f known
longer-atoms (finally f) known = longer-atoms f known
longer-atoms (globally f) known = longer-atoms f known
longer-atoms (and f g) known = omega (arith, longer-atoms f known, longer-atoms g (with_atoms f known))
longer-atoms (or f g) known = omega (arith, longer-atoms f known, longer-atoms g (with_atoms f known))
longer-atoms (implies f g) known = omega (arith, longer-atoms f known, longer-atoms g (with_atoms f known))
longer-atoms (iff f g) known = omega (arith, longer-atoms f known, longer-atoms g (with_atoms f known))
longer-atoms (until f g) known = omega (arith, longer-atoms f known, longer-atoms g (with_atoms f known))
longer-atoms (release f g) known = omega (arith, longer-atoms f known, longer-atoms g (with_atoms f known))
longer-atoms (weak f g) known = omega (arith, longer-atoms f known, longer-atoms g (with_atoms f known))

-- a tree that adds the atoms of two, one after the other
abbrev pub Both : Tree → Tree → Tree → Type 0
Both whole f g = (known : List IndexedAtom) → with_atoms whole known ≡ with_atoms g (with_atoms f known)

module _ (most : ℕ) (whole f g : Tree) (two : Both whole f g) (known mid found : List IndexedAtom) where
  -- The first adds too many.
  pub many-first : AreAdded most f known mid false → AreAdded most whole known found false
  many-first many = omega (arith, many, ap length (two known), longer-atoms g (with_atoms f known))

  -- The first adds its own, and then the second.
  pub added-both : (all : Bool) → AreAdded most f known mid true → AreAdded most g mid found all → AreAdded most whole known found all
  added-both true first then = then ∙ ap (with_atoms g) first ∙ sym (two known)
  added-both false first then = omega (arith, then, ap (λ m. length (with_atoms g m)) first, ap length (two known))
