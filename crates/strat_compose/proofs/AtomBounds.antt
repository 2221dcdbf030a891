-- The variables of the atoms of a body are those of its quantifiers, and the driven body has one.
use Rattle.std.proofs.Common.{◌≡◌, ℕ, zero, suc, ◌*◌, ◌<◌, true, nat_eq, List, [], ◌∷◌, ◌++◌, map, length, All, refl, sym, subst, arith}
use Rattle.std.specs.List.{list_any}
use Rattle.std.proofs.lemmas.Bool.{and_from, and_parts, cond_both, ltb-true}
use Rattle.hy_formula.specs.declared.atom.Atom.{Atom}
use Rattle.hy_formula.specs.Trees.{Tree, always, never, atom, not, next, finally, globally, and, or, implies, iff, until, release, weak, vars_below}
use Rattle.aig_net.specs.Nets.{Net}
use Rattle.hy_base.proofs.Listed.{each-append}
use Rattle.hy_formula.specs.Atoms.{IndexedAtom, atoms_of, is_atom, plain_atom, with_atom, with_atoms}
use Rattle.strat_compose.specs.AtomNumbers.{atom_at, no_atom}
use Rattle.strat_compose.specs.Formulas.{are_fair, demanded, driven_body, is_kept, kept_part}
use Rattle.strat_compose.proofs.Conjuncts.{gathered-bound}
use Rattle.strat_compose.proofs.Numbering.{numbered-bound}

-- Each variable is below n.
abbrev pub AtomsBelow : ℕ → List IndexedAtom → Type 0
AtomsBelow n atoms = (k : ℕ) → k < length atoms → (atom_at atoms k).variable < n

one-below : (n name variable : ℕ) (known : List IndexedAtom) → variable < n →
    AtomsBelow n known → AtomsBelow n (with_atom name variable known)
one-below n name variable known lt all =
    cond_both (list_any (is_atom name variable) known) known
    (known ++ record { name = name; variable = variable } ∷ []) (AtomsBelow n) (λ _. all)
    (λ _. each-append no_atom known (record { name = name; variable = variable } ∷ [])
    (λ _ a. a.variable < n) all last)
  where
    last : (j : ℕ) → j < 1 →
        (atom_at (record { name = name; variable = variable } ∷ []) j).variable < n
    last zero few = lt
    last (suc j) few = absurd (omega arith)

pub atoms-below : (n : ℕ) (f : Tree) (known : List IndexedAtom) → vars_below n f ≡ true →
    AtomsBelow n known → AtomsBelow n (with_atoms f known)
atoms-below n always known h all = all
atoms-below n never known h all = all
atoms-below n (atom name v) known h all = one-below n name v known (ltb-true v n h) all
atoms-below n (not f) known h all = atoms-below n f known h all
atoms-below n (next f) known h all = atoms-below n f known h all
atoms-below n (finally f) known h all = atoms-below n f known h all
atoms-below n (globally f) known h all = atoms-below n f known h all
atoms-below n (and f g) known h all =
    let (p, q) = and_parts _ _ h in
    atoms-below n g (with_atoms f known) q (atoms-below n f known p all)
atoms-below n (or f g) known h all =
    let (p, q) = and_parts _ _ h in
    atoms-below n g (with_atoms f known) q (atoms-below n f known p all)
atoms-below n (implies f g) known h all =
    let (p, q) = and_parts _ _ h in
    atoms-below n g (with_atoms f known) q (atoms-below n f known p all)
atoms-below n (iff f g) known h all =
    let (p, q) = and_parts _ _ h in
    atoms-below n g (with_atoms f known) q (atoms-below n f known p all)
atoms-below n (until f g) known h all =
    let (p, q) = and_parts _ _ h in
    atoms-below n g (with_atoms f known) q (atoms-below n f known p all)
atoms-below n (release f g) known h all =
    let (p, q) = and_parts _ _ h in
    atoms-below n g (with_atoms f known) q (atoms-below n f known p all)
atoms-below n (weak f g) known h all =
    let (p, q) = and_parts _ _ h in
    atoms-below n g (with_atoms f known) q (atoms-below n f known p all)

of-plain : (n : ℕ) (atoms : List Atom) → AtomsBelow n (map plain_atom atoms) →
    All (λ a. a.var < n) atoms
of-plain n [] all k d lt = absurd (omega arith)
of-plain n (a ∷ atoms) all zero d lt = all 0 (omega arith)
of-plain n (a ∷ atoms) all (suc k) d lt =
    of-plain n atoms (λ j small. all (suc j) (omega arith)) k d (omega arith)

pub atoms-bound : (n : ℕ) (body : Tree) (atoms : List Atom) → vars_below n body ≡ true →
    map plain_atom atoms ≡ atoms_of body → All (λ a. a.var < n) atoms
atoms-bound n body atoms h same =
    let P : List IndexedAtom → Type 0 = AtomsBelow n in
    of-plain n atoms (subst P (sym same)
    (atoms-below n body [] h (λ k lt. absurd (omega arith))))

-- ---- the driven body

fair-bound : (name n : ℕ) → vars_below 1 (are_fair name n) ≡ true
fair-bound name zero = refl
fair-bound name (suc n) = fair-bound (suc name) n

kept-bound : (net : Net) (name : ℕ) → vars_below 1 (kept_part net name) ≡ true
kept-bound net name =
    cond_both (nat_eq (length net.constraints) 0) always (is_kept name)
    (λ f. vars_below 1 f ≡ true) (λ _. refl) (λ _. refl)

pub driven-bound : (net : Net) (e : ℕ) (body : Tree) → vars_below 1 (driven_body net e body) ≡ true
driven-bound net e body =
    let atoms : List IndexedAtom = atoms_of body in
    gathered-bound 1 (demanded net e atoms body)
    (and_from _ _ (kept-bound net (length atoms))
    (and_from _ _ (fair-bound (suc (length atoms)) (e * length net.fairs))
    (numbered-bound atoms body)))
