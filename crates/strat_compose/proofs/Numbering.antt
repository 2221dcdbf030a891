-- Atoms by their numbers: a body with numbers for atoms says of the outputs what the body says of
-- the tuple.
use Rattle.std.proofs.Common.{◌≡◌, ℕ, suc, ◌+◌, ◌<◌, ◌⊎◌, Bool, true, false, List, [], ◌∷◌, ◌++◌, map, length, get_or, IsTrue, inl, inr, refl, sym, ap, ap₂, ◌∙◌, arith}
use Rattle.std.specs.List.{list_any}
use Rattle.std.proofs.lemmas.Bool.{and_from, and_parts, cond_both, eq-eqb, eqb-true, false≢true, or_cases, or_left, or_right}
use Rattle.std.proofs.lemmas.List.Folds.{list_any-append}
use Rattle.hy_formula.specs.Trees.{Tree, always, never, atom, not, next, finally, globally, and, or, implies, iff, until, release, weak, vars_below}
use Rattle.hy_formula.specs.Temporal.{IsRelease, IsUntil, SatisfiesAt, Span, Within, Words}
use Rattle.hy_formula.specs.Atoms.{IndexedAtom, is_atom, with_atom, with_atoms}
use Rattle.strat_compose.specs.AtomNumbers.{are_in, number_in, numbered}

-- ---- the list of the atoms of a body has each of them

abbrev Has : ℕ → ℕ → List IndexedAtom → Type 0
Has name variable atoms = list_any (is_atom name variable) atoms ≡ true

module _ (name variable : ℕ) where
  abbrev test : IndexedAtom → Bool
  test = is_atom name variable

  is-itself : (n v : ℕ) → is_atom n v (record { name = n; variable = v }) ≡ true
  is-itself n v = and_from _ _ (eq-eqb n n refl) (eq-eqb v v refl)

  -- One more atom leaves those that are there.
  one-kept : (n v : ℕ) (known : List IndexedAtom) → Has name variable known →
      Has name variable (with_atom n v known)
  one-kept n v known has =
      cond_both (list_any (is_atom n v) known) known
      (known ++ record { name = n; variable = v } ∷ []) (Has name variable) (λ _. has)
      (λ _. list_any-append test known (record { name = n; variable = v } ∷ [])
      ∙ or_left _ _ has)

  all-kept : (f : Tree) (known : List IndexedAtom) → Has name variable known →
      Has name variable (with_atoms f known)
  all-kept always known has = has
  all-kept never known has = has
  all-kept (atom n v) known has = one-kept n v known has
  all-kept (not f) known has = all-kept f known has
  all-kept (next f) known has = all-kept f known has
  all-kept (finally f) known has = all-kept f known has
  all-kept (globally f) known has = all-kept f known has
  all-kept (and f g) known has = all-kept g (with_atoms f known) (all-kept f known has)
  all-kept (or f g) known has = all-kept g (with_atoms f known) (all-kept f known has)
  all-kept (implies f g) known has = all-kept g (with_atoms f known) (all-kept f known has)
  all-kept (iff f g) known has = all-kept g (with_atoms f known) (all-kept f known has)
  all-kept (until f g) known has = all-kept g (with_atoms f known) (all-kept f known has)
  all-kept (release f g) known has = all-kept g (with_atoms f known) (all-kept f known has)
  all-kept (weak f g) known has = all-kept g (with_atoms f known) (all-kept f known has)

  new-there : (known : List IndexedAtom) → Has name variable (with_atom name variable known)
  new-there known =
      cond_both (list_any test known) known
      (known ++ record { name = name; variable = variable } ∷ []) (Has name variable)
      (λ there. there)
      (λ _. list_any-append test known (record { name = name; variable = variable } ∷ [])
      ∙ or_right _ _ (or_left _ _ (is-itself name variable)))

-- a list with all that another has
abbrev Keeps : List IndexedAtom → List IndexedAtom → Type 0
Keeps known more = (n v : ℕ) → Has n v known → Has n v more

kept-in : (known more : List IndexedAtom) → Keeps known more → (f : Tree) →
    are_in known f ≡ true → are_in more f ≡ true
kept-in known more keeps always h = refl
kept-in known more keeps never h = refl
kept-in known more keeps (atom n v) h = keeps n v h
kept-in known more keeps (not f) h = kept-in known more keeps f h
kept-in known more keeps (next f) h = kept-in known more keeps f h
kept-in known more keeps (finally f) h = kept-in known more keeps f h
kept-in known more keeps (globally f) h = kept-in known more keeps f h
kept-in known more keeps (and f g) h =
    let (p, q) = and_parts _ _ h in
    and_from _ _ (kept-in known more keeps f p) (kept-in known more keeps g q)
kept-in known more keeps (or f g) h =
    let (p, q) = and_parts _ _ h in
    and_from _ _ (kept-in known more keeps f p) (kept-in known more keeps g q)
kept-in known more keeps (implies f g) h =
    let (p, q) = and_parts _ _ h in
    and_from _ _ (kept-in known more keeps f p) (kept-in known more keeps g q)
kept-in known more keeps (iff f g) h =
    let (p, q) = and_parts _ _ h in
    and_from _ _ (kept-in known more keeps f p) (kept-in known more keeps g q)
kept-in known more keeps (until f g) h =
    let (p, q) = and_parts _ _ h in
    and_from _ _ (kept-in known more keeps f p) (kept-in known more keeps g q)
kept-in known more keeps (release f g) h =
    let (p, q) = and_parts _ _ h in
    and_from _ _ (kept-in known more keeps f p) (kept-in known more keeps g q)
kept-in known more keeps (weak f g) h =
    let (p, q) = and_parts _ _ h in
    and_from _ _ (kept-in known more keeps f p) (kept-in known more keeps g q)

-- The list has each atom of a tree whose atoms were added to it.
pub all-in : (f : Tree) (known : List IndexedAtom) → are_in (with_atoms f known) f ≡ true
all-in always known = refl
all-in never known = refl
all-in (atom n v) known = new-there n v known
all-in (not f) known = all-in f known
all-in (next f) known = all-in f known
all-in (finally f) known = all-in f known
all-in (globally f) known = all-in f known
all-in (and f g) known =
    and_from _ _ (kept-in (with_atoms f known) (with_atoms g (with_atoms f known))
    (λ n v. all-kept n v g (with_atoms f known)) f (all-in f known))
    (all-in g (with_atoms f known))
all-in (or f g) known =
    and_from _ _ (kept-in (with_atoms f known) (with_atoms g (with_atoms f known))
    (λ n v. all-kept n v g (with_atoms f known)) f (all-in f known))
    (all-in g (with_atoms f known))
all-in (implies f g) known =
    and_from _ _ (kept-in (with_atoms f known) (with_atoms g (with_atoms f known))
    (λ n v. all-kept n v g (with_atoms f known)) f (all-in f known))
    (all-in g (with_atoms f known))
all-in (iff f g) known =
    and_from _ _ (kept-in (with_atoms f known) (with_atoms g (with_atoms f known))
    (λ n v. all-kept n v g (with_atoms f known)) f (all-in f known))
    (all-in g (with_atoms f known))
all-in (until f g) known =
    and_from _ _ (kept-in (with_atoms f known) (with_atoms g (with_atoms f known))
    (λ n v. all-kept n v g (with_atoms f known)) f (all-in f known))
    (all-in g (with_atoms f known))
all-in (release f g) known =
    and_from _ _ (kept-in (with_atoms f known) (with_atoms g (with_atoms f known))
    (λ n v. all-kept n v g (with_atoms f known)) f (all-in f known))
    (all-in g (with_atoms f known))
all-in (weak f g) known =
    and_from _ _ (kept-in (with_atoms f known) (with_atoms g (with_atoms f known))
    (λ n v. all-kept n v g (with_atoms f known)) f (all-in f known))
    (all-in g (with_atoms f known))

-- ---- what stands at the number of an atom

has-behind : (a : IndexedAtom) (atoms : List IndexedAtom) (name variable : ℕ) →
    Has name variable (a ∷ atoms) → is_atom name variable a ≡ false → Has name variable atoms
has-behind a atoms name variable has isnt =
    elim (or_cases (is_atom name variable a) _ has) [
      | inl is ↦ absurd (false≢true (sym isnt ∙ is))
      | inr rest ↦ rest
    ]

is-same : (a : IndexedAtom) (name variable : ℕ) → is_atom name variable a ≡ true →
    a ≡ record { name = name; variable = variable }
is-same a name variable is =
    let (n, v) = and_parts _ _ is in
    let rest : record { name = name; variable = a.variable }
    ≡ record { name = name; variable = variable } =
    ap (λ x. record { name = name; variable = x }) (eqb-true a.variable variable v) in
    ap (λ x. record { name = x; variable = a.variable }) (eqb-true a.name name n) ∙ rest

pub number-there : (atoms : List IndexedAtom) (name variable : ℕ) → Has name variable atoms →
    number_in atoms name variable < length atoms
number-there [] name variable has = absurd (cc)
number-there (a ∷ atoms) name variable has =
    cond_both (is_atom name variable a) 0 (suc (number_in atoms name variable))
    (λ k. k < suc (length atoms)) (λ is. omega arith)
    (λ isnt. let low = number-there atoms name variable (has-behind a atoms name variable has isnt)
    in omega (arith, low))

pub at-number : {B : Type 0} (f : IndexedAtom → B) (d : B) (atoms : List IndexedAtom)
    (rest : List B) (name variable : ℕ) → Has name variable atoms →
    get_or (map f atoms ++ rest) (number_in atoms name variable) d
    ≡ f (record { name = name; variable = variable })
at-number f d [] rest name variable has = absurd (cc)
at-number f d (a ∷ atoms) rest name variable has =
    cond_both (is_atom name variable a) 0 (suc (number_in atoms name variable))
    (λ k. get_or (map f (a ∷ atoms) ++ rest) k d ≡ f (record { name = name; variable = variable }))
    (λ is. ap f (is-same a name variable is))
    (λ isnt. at-number f d atoms rest name variable (has-behind a atoms name variable has isnt))

-- ---- what a body with numbers says

module _ (span : Span) (words named : Words) (atoms : List IndexedAtom)
    (same : (name variable : ℕ) → Has name variable atoms →
    words (number_in atoms name variable) 0 ≡ named name variable) where
  pub numbered-same : (f : Tree) → are_in atoms f ≡ true →
      SatisfiesAt span words (numbered atoms f) ≡ SatisfiesAt span named f
  numbered-same always h = refl
  numbered-same never h = refl
  numbered-same (atom n v) h =
      ap (λ (w : ℕ → Bool). λ (i : ℕ). IsTrue (w i)) (same n v h)
  numbered-same (not f) h = ap (λ (P : ℕ → Type 0). λ (i : ℕ). ¬ P i) (numbered-same f h)
  numbered-same (next f) h =
      ap (λ (P : ℕ → Type 0). λ (i : ℕ). Within span (i + 1) × P (i + 1)) (numbered-same f h)
  numbered-same (finally f) h = ap (IsUntil span (λ _. Unit {0})) (numbered-same f h)
  numbered-same (globally f) h = ap (IsRelease span (λ _. ⊥)) (numbered-same f h)
  numbered-same (and f g) h =
      let (p, q) = and_parts _ _ h in
      ap₂ (λ (P Q : ℕ → Type 0). λ (i : ℕ). P i × Q i)
      (numbered-same f p) (numbered-same g q)
  numbered-same (or f g) h =
      let (p, q) = and_parts _ _ h in
      ap₂ (λ (P Q : ℕ → Type 0). λ (i : ℕ). P i ⊎ Q i)
      (numbered-same f p) (numbered-same g q)
  numbered-same (implies f g) h =
      let (p, q) = and_parts _ _ h in
      ap₂ (λ (P Q : ℕ → Type 0). λ (i : ℕ). P i → Q i)
      (numbered-same f p) (numbered-same g q)
  numbered-same (iff f g) h =
      let (p, q) = and_parts _ _ h in
      ap₂ (λ (P Q : ℕ → Type 0). λ (i : ℕ). (P i → Q i) × (Q i → P i))
      (numbered-same f p) (numbered-same g q)
  numbered-same (until f g) h =
      let (p, q) = and_parts _ _ h in
      ap₂ (IsUntil span)
      (numbered-same f p) (numbered-same g q)
  numbered-same (release f g) h =
      let (p, q) = and_parts _ _ h in
      ap₂ (IsRelease span)
      (numbered-same f p) (numbered-same g q)
  numbered-same (weak f g) h =
      let (p, q) = and_parts _ _ h in
      ap₂ (λ (P Q : ℕ → Type 0). IsRelease span Q (λ k. P k ⊎ Q k))
      (numbered-same f p) (numbered-same g q)

-- Each variable is the one.
pub numbered-bound : (atoms : List IndexedAtom) (f : Tree) → vars_below 1 (numbered atoms f) ≡ true
numbered-bound atoms always = refl
numbered-bound atoms never = refl
numbered-bound atoms (atom n v) = refl
numbered-bound atoms (not f) = numbered-bound atoms f
numbered-bound atoms (next f) = numbered-bound atoms f
numbered-bound atoms (finally f) = numbered-bound atoms f
numbered-bound atoms (globally f) = numbered-bound atoms f
numbered-bound atoms (and f g) = and_from _ _ (numbered-bound atoms f) (numbered-bound atoms g)
numbered-bound atoms (or f g) = and_from _ _ (numbered-bound atoms f) (numbered-bound atoms g)
numbered-bound atoms (implies f g) = and_from _ _ (numbered-bound atoms f) (numbered-bound atoms g)
numbered-bound atoms (iff f g) = and_from _ _ (numbered-bound atoms f) (numbered-bound atoms g)
numbered-bound atoms (until f g) = and_from _ _ (numbered-bound atoms f) (numbered-bound atoms g)
numbered-bound atoms (release f g) = and_from _ _ (numbered-bound atoms f) (numbered-bound atoms g)
numbered-bound atoms (weak f g) = and_from _ _ (numbered-bound atoms f) (numbered-bound atoms g)
