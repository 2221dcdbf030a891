-- The literals of the closure of a body are among its atoms.
use Rattle.std.proofs.Common.{◌≡◌, ◌<◌, ℕ, Bool, true, false, cond, List, [], ◌∷◌, ◌++◌, length, inl, inr, refl, sym, ap, ◌∙◌, subst, arith, length-append}
use Rattle.std.specs.List.{list_any}
use Rattle.std.proofs.lemmas.Bool.{cases_lt, eq-eqb, or_left, or_right, and_from}
use Rattle.std.proofs.lemmas.List.{get_or_append_left, get_or-map, length-map}
use Rattle.std.proofs.lemmas.List.Folds.{list_any-append}
use Rattle.hy_formula.specs.Trees as tree
use Rattle.hy_formula.specs.Trees.{Tree}
use Rattle.hy_formula.specs.Normals.{Normal, always, never, literal, and, or, next, weak_next, until, release, normal_form}
use Rattle.ltl_closure.specs.Nodes as node
use Rattle.ltl_closure.specs.Closures.{same_form, with_new, with_form, closure, form_in, node_of}
use Rattle.ltl_closure.proofs.Closing.{last-form}
use Rattle.hy_formula.specs.Atoms.{IndexedAtom, is_atom, with_atom, with_atoms, atoms_of}
use Rattle.fin_monitor.specs.Codes.{code_of, letter_of}
use Rattle.ltl_closure.specs.Bodies.{body_nodes}
use Rattle.fin_monitor.proofs.CodeBits.{letter-code}
use Rattle.fin_monitor.proofs.Steps.{SameAtoms}

abbrev pub IsKnown : List IndexedAtom → ℕ → ℕ → Type 0
IsKnown atoms n v = list_any (is_atom n v) atoms ≡ true

-- each atom of the first list is known in the second
abbrev Inside : List IndexedAtom → List IndexedAtom → Type 0
Inside xs atoms = (n v : ℕ) → IsKnown xs n v → IsKnown atoms n v

-- the literals of a form are known
abbrev pub AreKnown : List IndexedAtom → Normal → Type 0
AreKnown atoms always = Unit {0}
AreKnown atoms never = Unit {0}
AreKnown atoms (literal b n v) = IsKnown atoms n v
AreKnown atoms (and f g) = AreKnown atoms f × AreKnown atoms g
AreKnown atoms (or f g) = AreKnown atoms f × AreKnown atoms g
AreKnown atoms (next f) = AreKnown atoms f
AreKnown atoms (weak_next f) = AreKnown atoms f
AreKnown atoms (until f g) = AreKnown atoms f × AreKnown atoms g
AreKnown atoms (release f g) = AreKnown atoms f × AreKnown atoms g

with-kept : (n v : ℕ) (known : List IndexedAtom) → Inside known (with_atom n v known)
with-kept n v known m u is = step (list_any (is_atom n v) known)
  where
    step : (b : Bool) → IsKnown (cond b known (known ++ record { name = n; variable = v } ∷ [])) m u
    step true = is
    step false = list_any-append (is_atom m u) known (record { name = n; variable = v } ∷ []) ∙ or_left (list_any (is_atom m u) known) _ is

with-there : (n v : ℕ) (known : List IndexedAtom) → IsKnown (with_atom n v known) n v
with-there n v known = step (list_any (is_atom n v) known) refl
  where
    new : IndexedAtom
    new = record { name = n; variable = v }

    step : (b : Bool) → list_any (is_atom n v) known ≡ b → IsKnown (cond b known (known ++ record { name = n; variable = v } ∷ [])) n v
    step true e = e
    step false e =
        list_any-append (is_atom n v) known (record { name = n; variable = v } ∷ [])
        ∙ or_right (list_any (is_atom n v) known) _ (or_left (is_atom n v (record { name = n; variable = v })) false (and_from _ _ (eq-eqb n n refl) (eq-eqb v v refl)))

grows : (f : Tree) (known : List IndexedAtom) → Inside known (with_atoms f known)
grows tree.always known n v is = is
grows tree.never known n v is = is
grows (tree.atom m u) known n v is = with-kept m u known n v is
grows (tree.not f) known n v is = grows f known n v is
grows (tree.next f) known n v is = grows f known n v is
grows (tree.finally f) known n v is = grows f known n v is
grows (tree.globally f) known n v is = grows f known n v is
grows (tree.and f g) known n v is = grows g (with_atoms f known) n v (grows f known n v is)
grows (tree.or f g) known n v is = grows g (with_atoms f known) n v (grows f known n v is)
grows (tree.implies f g) known n v is = grows g (with_atoms f known) n v (grows f known n v is)
grows (tree.iff f g) known n v is = grows g (with_atoms f known) n v (grows f known n v is)
grows (tree.until f g) known n v is = grows g (with_atoms f known) n v (grows f known n v is)
grows (tree.release f g) known n v is = grows g (with_atoms f known) n v (grows f known n v is)
grows (tree.weak f g) known n v is = grows g (with_atoms f known) n v (grows f known n v is)

module _ (atoms : List IndexedAtom) where
  -- of two parts, one after the other
  left-inside : (f g : Tree) (known : List IndexedAtom) → Inside (with_atoms g (with_atoms f known)) atoms → Inside (with_atoms f known) atoms
  left-inside f g known all n v is = all n v (grows g (with_atoms f known) n v is)

  normal-known : (b : Bool) (f : Tree) (known : List IndexedAtom) → Inside (with_atoms f known) atoms → AreKnown atoms (normal_form b f)
  normal-known true tree.always known all = tt
  normal-known false tree.always known all = tt
  normal-known true tree.never known all = tt
  normal-known false tree.never known all = tt
  normal-known true (tree.atom n v) known all = all n v (with-there n v known)
  normal-known false (tree.atom n v) known all = all n v (with-there n v known)
  normal-known true (tree.not f) known all = normal-known false f known all
  normal-known false (tree.not f) known all = normal-known true f known all
  normal-known true (tree.next f) known all = normal-known true f known all
  normal-known false (tree.next f) known all = normal-known false f known all
  normal-known true (tree.finally f) known all = (tt, normal-known true f known all)
  normal-known false (tree.finally f) known all = (tt, normal-known false f known all)
  normal-known true (tree.globally f) known all = (tt, normal-known true f known all)
  normal-known false (tree.globally f) known all = (tt, normal-known false f known all)
  normal-known true (tree.and f g) known all = (normal-known true f known (left-inside f g known all), normal-known true g (with_atoms f known) all)
  normal-known false (tree.and f g) known all = (normal-known false f known (left-inside f g known all), normal-known false g (with_atoms f known) all)
  normal-known true (tree.or f g) known all = (normal-known true f known (left-inside f g known all), normal-known true g (with_atoms f known) all)
  normal-known false (tree.or f g) known all = (normal-known false f known (left-inside f g known all), normal-known false g (with_atoms f known) all)
  normal-known true (tree.implies f g) known all = (normal-known false f known (left-inside f g known all), normal-known true g (with_atoms f known) all)
  normal-known false (tree.implies f g) known all = (normal-known true f known (left-inside f g known all), normal-known false g (with_atoms f known) all)
  normal-known true (tree.iff f g) known all =
      let l = left-inside f g known all in
      ((normal-known true f known l, normal-known true g (with_atoms f known) all), (normal-known false f known l, normal-known false g (with_atoms f known) all))
  normal-known false (tree.iff f g) known all =
      let l = left-inside f g known all in
      ((normal-known true f known l, normal-known false g (with_atoms f known) all), (normal-known false f known l, normal-known true g (with_atoms f known) all))
  normal-known true (tree.until f g) known all = (normal-known true f known (left-inside f g known all), normal-known true g (with_atoms f known) all)
  normal-known false (tree.until f g) known all = (normal-known false f known (left-inside f g known all), normal-known false g (with_atoms f known) all)
  normal-known true (tree.release f g) known all = (normal-known true f known (left-inside f g known all), normal-known true g (with_atoms f known) all)
  normal-known false (tree.release f g) known all = (normal-known false f known (left-inside f g known all), normal-known false g (with_atoms f known) all)
  normal-known true (tree.weak f g) known all =
      let x = normal-known true f known (left-inside f g known all) in
      let y = normal-known true g (with_atoms f known) all in (y, (x, y))
  normal-known false (tree.weak f g) known all =
      let x = normal-known false f known (left-inside f g known all) in
      let y = normal-known false g (with_atoms f known) all in (y, (x, y))

  -- ---- the members of a closure

  abbrev AllKnown : List Normal → Type 0
  AllKnown members = (k : ℕ) → k < length members → AreKnown atoms (form_in members k)

  new-known : (f : Normal) (members : List Normal) → AllKnown members → AreKnown atoms f → AllKnown (with_new f members)
  new-known f members all is = step (list_any (same_form f) members)
    where
      step : (b : Bool) → AllKnown (cond b members (members ++ f ∷ []))
      step true k lt = all k lt
      step false k lt =
          let P : Normal → Type 0 = AreKnown atoms in
          elim (cases_lt k (length members)) [
            | inl old ↦ subst P (sym (get_or_append_left members (f ∷ []) always k old)) (all k old)
            | inr more ↦
                let here : k ≡ length members = omega (arith, length-append members (f ∷ [])) in
                subst P (sym (ap (form_in (members ++ f ∷ [])) here ∙ last-form members f)) is
          ]

  form-known : (f : Normal) (members : List Normal) → AllKnown members → AreKnown atoms f → AllKnown (with_form f members)
  form-known always members all is = new-known always members all is
  form-known never members all is = new-known never members all is
  form-known (literal b n v) members all is = new-known (literal b n v) members all is
  form-known (and f g) members all (x, y) = new-known (and f g) (with_form g (with_form f members)) (form-known g (with_form f members) (form-known f members all x) y) (x, y)
  form-known (or f g) members all (x, y) = new-known (or f g) (with_form g (with_form f members)) (form-known g (with_form f members) (form-known f members all x) y) (x, y)
  form-known (next f) members all x = new-known (next f) (with_form f members) (form-known f members all x) x
  form-known (weak_next f) members all x = new-known (weak_next f) (with_form f members) (form-known f members all x) x
  form-known (until f g) members all (x, y) = new-known (until f g) (with_form g (with_form f members)) (form-known g (with_form f members) (form-known f members all x) y) (x, y)
  form-known (release f g) members all (x, y) = new-known (release f g) (with_form g (with_form f members)) (form-known g (with_form f members) (form-known f members all x) y) (x, y)

  -- a node that is a literal is that of the literal
  literal-of : (members : List Normal) (f : Normal) (b : Bool) (n v : ℕ) → node_of members f ≡ node.literal b n v → AreKnown atoms f → IsKnown atoms n v
  literal-of members always b n v e is = absurd (cc)
  literal-of members never b n v e is = absurd (cc)
  literal-of members (literal c m u) b n v e is =
      let x : m ≡ n = cc in
      let y : u ≡ v = cc in
      let P : ℕ → ℕ → Type 0 = λ p q. IsKnown atoms p q in
      subst (λ q. P n q) y (subst (λ p. P p u) x is)
  literal-of members (and f g) b n v e is = absurd (cc)
  literal-of members (or f g) b n v e is = absurd (cc)
  literal-of members (next f) b n v e is = absurd (cc)
  literal-of members (weak_next f) b n v e is = absurd (cc)
  literal-of members (until f g) b n v e is = absurd (cc)
  literal-of members (release f g) b n v e is = absurd (cc)

-- The letter of the code of a letter agrees with it at the literals of the body.
pub body-atoms : (body : Tree) (letter : ℕ → ℕ → Bool) → SameAtoms (body_nodes body true) letter (letter_of (atoms_of body) (code_of letter (atoms_of body)))
body-atoms body letter k lt b n v is =
    let form : Normal = normal_form true body in
    let members : List Normal = closure (form ∷ []) in
    let l : length (body_nodes body true) ≡ length members = length-map members (node_of members) in
    let inside : k < length members = omega (arith, l, lt) in
    let known = normal-known (atoms_of body) true body [] (λ m u h. h) in
    let all = form-known (atoms_of body) form [] (λ q less. absurd (omega arith)) known in
    let at : node_of members (form_in members k) ≡ node.literal b n v = sym (get_or-map (node_of members) members k always node.always inside) ∙ is in
    sym (letter-code letter (atoms_of body) n v (literal-of (atoms_of body) members (form_in members k) b n v at (all k inside)))
