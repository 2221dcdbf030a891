-- The names of a driven body are the numbers of the driven net's outputs.
use Rattle.std.proofs.Common.{◌≡◌, ℕ, zero, suc, ◌+◌, ◌*◌, ◌<◌, ◌≤◌, Bool, true, false, cond, ◌||◌, nat_eq, List, [], length, inl, inr, arith}
use Rattle.std.proofs.lemmas.Bool.{and_parts, cond_both, eqb-true, or_cases, or_left, or_right}
use Rattle.hy_formula.specs.Atoms.{IndexedAtom, atoms_of, has_name}
use Rattle.hy_formula.specs.Trees.{Tree, always, never, atom, not, next, finally, globally, and, or, implies, iff, until, release, weak}
use Rattle.aig_net.specs.Nets.{Net}
use Rattle.strat_compose.specs.AtomNumbers.{are_in, number_in, numbered}
use Rattle.strat_compose.specs.Driving.{name_count}
use Rattle.strat_compose.specs.Formulas.{all_along, are_fair, both, demanded, driven_body, gathered, is_always, is_kept, kept_part, lasting, passing}
use Rattle.strat_compose.proofs.Numbering.{all-in, number-there}

module _ (n : ℕ) where
  -- Each name of the tree is below n.
  abbrev pub NamesBelow : Tree → Type 0
  NamesBelow f = (k : ℕ) → has_name f k ≡ true → k < n

  of-two : (f g : Tree) → NamesBelow f → NamesBelow g → (k : ℕ) →
      (has_name f k || has_name g k) ≡ true → k < n
  of-two f g p q k h =
      elim (or_cases (has_name f k) (has_name g k) h) [ inl first ↦ p k first | inr last ↦ q k last ]

  -- ---- outermost conjuncts

  both-below : (f g : Tree) → NamesBelow f → NamesBelow g → NamesBelow (both f g)
  both-below f g p q = at (is_always f) (is_always g)
    where
      at : (a b : Bool) → NamesBelow (cond a g (cond b f (and f g)))
      at true b = q
      at false true = p
      at false false = of-two f g p q

  none-below : NamesBelow always
  none-below k h = absurd (cc)

  all_along-below : (f : Tree) → NamesBelow f → NamesBelow (all_along f)
  all_along-below f p = at (is_always f)
    where
      at : (a : Bool) → NamesBelow (cond a always (globally f))
      at true = none-below
      at false = p

  lasting-below : (f : Tree) → NamesBelow f → NamesBelow (lasting f)
  lasting-below (and f g) h =
      both-below (lasting f) (lasting g) (lasting-below f (λ k e. h k (or_left _ _ e)))
      (lasting-below g (λ k e. h k (or_right _ _ e)))
  lasting-below (globally f) h = h
  lasting-below f h = none-below

  passing-below : (f : Tree) → NamesBelow f → NamesBelow (passing f)
  passing-below (and f g) h =
      both-below (passing f) (passing g) (passing-below f (λ k e. h k (or_left _ _ e)))
      (passing-below g (λ k e. h k (or_right _ _ e)))
  passing-below (globally f) h = none-below
  passing-below f h = h

  gathered-below : (f : Tree) → NamesBelow f → NamesBelow (gathered f)
  gathered-below f h =
      both-below (all_along (lasting f)) (passing f)
      (all_along-below (lasting f) (lasting-below f h)) (passing-below f h)

  -- ---- what is demanded

  one-below : (name : ℕ) → name < n → NamesBelow (atom name 0)
  one-below name lt k h = let same = eqb-true name k h in omega (arith, same, lt)

  kept-below : (net : Net) (name : ℕ) → name < n → NamesBelow (kept_part net name)
  kept-below net name lt =
      cond_both (nat_eq (length net.constraints) 0) always (is_kept name) NamesBelow
      (λ _. none-below) (λ _. one-below name lt)

  fair-below : (name m : ℕ) → name + m ≤ n → NamesBelow (are_fair name m)
  fair-below name zero few = none-below
  fair-below name (suc m) few =
      of-two (globally (finally (atom name 0))) (are_fair (suc name) m)
      (one-below name (omega arith)) (fair-below (suc name) m (omega arith))

  module _ (atoms : List IndexedAtom) (few : length atoms ≤ n) where
    numbered-below : (f : Tree) → are_in atoms f ≡ true → NamesBelow (numbered atoms f)
    numbered-below always h = none-below
    numbered-below never h = none-below
    numbered-below (atom name v) h =
        let there = number-there atoms name v h in
        one-below (number_in atoms name v) (omega (arith, there, few))
    numbered-below (not f) h = numbered-below f h
    numbered-below (next f) h = numbered-below f h
    numbered-below (finally f) h = numbered-below f h
    numbered-below (globally f) h = numbered-below f h
    numbered-below (and f g) h =
        let (p, q) = and_parts _ _ h in
        of-two (numbered atoms f) (numbered atoms g) (numbered-below f p) (numbered-below g q)
    numbered-below (or f g) h =
        let (p, q) = and_parts _ _ h in
        of-two (numbered atoms f) (numbered atoms g) (numbered-below f p) (numbered-below g q)
    numbered-below (implies f g) h =
        let (p, q) = and_parts _ _ h in
        of-two (numbered atoms f) (numbered atoms g) (numbered-below f p) (numbered-below g q)
    numbered-below (iff f g) h =
        let (p, q) = and_parts _ _ h in
        of-two (numbered atoms f) (numbered atoms g) (numbered-below f p) (numbered-below g q)
    numbered-below (until f g) h =
        let (p, q) = and_parts _ _ h in
        of-two (numbered atoms f) (numbered atoms g) (numbered-below f p) (numbered-below g q)
    numbered-below (release f g) h =
        let (p, q) = and_parts _ _ h in
        of-two (numbered atoms f) (numbered atoms g) (numbered-below f p) (numbered-below g q)
    numbered-below (weak f g) h =
        let (p, q) = and_parts _ _ h in
        of-two (numbered atoms f) (numbered atoms g) (numbered-below f p) (numbered-below g q)

pub driven-below : (net : Net) (e : ℕ) (body : Tree) →
    NamesBelow (name_count net e (atoms_of body)) (driven_body net e body)
driven-below net e body =
    let atoms : List IndexedAtom = atoms_of body in
    let n : ℕ = name_count net e atoms in
    let fair = are_fair (suc (length atoms)) (e * length net.fairs) in
    gathered-below n (demanded net e atoms body)
    (of-two n (kept_part net (length atoms)) (and fair (numbered atoms body))
    (kept-below n net (length atoms) (omega arith))
    (of-two n fair (numbered atoms body)
    (fair-below n (suc (length atoms)) (e * length net.fairs) (omega arith))
    (numbered-below n atoms (omega arith) body (all-in body []))))
