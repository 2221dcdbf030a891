-- Wires that are made one after the other, as a loop makes them.
use Rattle.std.proofs.Common.{◌≡◌, ℕ, zero, suc, ◌+◌, ◌-◌, ◌<◌, ◌≤◌, List, [], ◌∷◌, ◌++◌, length, Result, Ok, Err, OnErr, refl, sym, ap, ◌∙◌, subst, arith, append_assoc, append-nil}
use Rattle.aig_net.specs.declared.parts.And.{And}
use Rattle.aig_net.specs.Wires.{Wire, literal, opposed, both, and_of, made, made_all, Fits, FitsAll, Makes, MakesAll, Begins, all_of}
use Rattle.hy_base.specs.Rows.{listed}
use Rattle.aig_net.proofs.Wiring.{grows}
use Rattle.hy_base.proofs.Listed.{last-listed}

pub all-ands : (first : ℕ) (ands : List And) (xs ys : List Wire) →
    (made_all first ands (xs ++ ys)).ands ≡ (made_all first (made_all first ands xs).ands ys).ands
all-ands first ands [] ys = refl
all-ands first ands (x ∷ xs) ys = all-ands first (made first ands x).ands xs ys

pub all-literals : (first : ℕ) (ands : List And) (xs ys : List Wire) →
    (made_all first ands (xs ++ ys)).literals ≡ (made_all first ands xs).literals
    ++ (made_all first (made_all first ands xs).ands ys).literals
all-literals first ands [] ys = refl
all-literals first ands (x ∷ xs) ys =
    ap (λ l. (made first ands x).literal ∷ l) (all-literals first (made first ands x).ands xs ys)

-- one more wire at the end
pub made-last : (first : ℕ) (old ands new : List And) (ws : List Wire) (w : Wire) (ls : List ℕ)
    (l : ℕ) → MakesAll first old ws ands ls → Makes first ands w new l →
    MakesAll first old (ws ++ w ∷ []) new (ls ++ l ∷ [])
made-last first old ands new ws w ls l all one = record {
  ands = one.ands ∙ ap (λ x. (made first x w).ands) all.ands ∙ sym (all-ands first old ws (w ∷ []));
  literals =
      ap (λ x. x ++ l ∷ []) all.literals
      ∙ ap (λ x. (made_all first old ws).literals ++ x ∷ []) (one.literal
      ∙ ap (λ x. (made first x w).literal) all.ands)
      ∙ sym (all-literals first old ws (w ∷ []));
}

pub next_made : (first : ℕ) (old ands new : List And) (f : ℕ →
    Wire) (j : ℕ) (ls : List ℕ) (l : ℕ) → MakesAll first old (listed 0 j f) ands ls →
    Makes first ands (f j) new l → MakesAll first old (listed 0 (j + 1) f) new (ls ++ l ∷ [])
next_made first old ands new f j ls l all one =
    let P : List Wire → Type 0 = λ ws. MakesAll first old ws new (ls ++ l ∷ []) in
    subst P (sym (last-listed j f)) (made-last first old ands new (listed 0 j f) (f j) ls l all one)

-- a front of the list takes no more ands
fewer : (first : ℕ) (old : List And) (f : ℕ → Wire) (j d : ℕ) →
    length (made_all first old (listed 0 j f)).ands ≤ length
    (made_all first old (listed 0 (j + d) f)).ands
fewer first old f j zero = let e : j + 0 ≡ j = omega arith in let same =
    ap (λ k. length (made_all first old (listed 0 k f)).ands) e in omega (arith, same)
fewer first old f j (suc d) =
    let e : j + suc d ≡ j + d + 1 = omega arith in
    let at = ap (λ k. length (made_all first old (listed 0 k f)).ands) e in
    let last = ap (λ ws. length (made_all first old ws).ands) (last-listed (j + d) f) in
    let parts = ap length (all-ands first old (listed 0 (j + d) f) (f (j + d) ∷ [])) in
    let more = grows first (made_all first old (listed 0 (j + d) f)).ands (f (j + d)) in
    let before = fewer first old f j d in
    omega (arith, at, last, parts, more, before)

pub fits_next : (first : ℕ) (old ands : List And) (f : ℕ → Wire) (j n : ℕ) (ls : List ℕ) → j < n →
    FitsAll first old (listed 0 n f) → MakesAll first old (listed 0 j f) ands ls →
    Fits first ands (f j)
fits_next first old ands f j n ls lt room all =
    let last = ap (λ ws. length (made_all first old ws).ands) (last-listed j f) in
    let parts = ap length (all-ands first old (listed 0 j f) (f j ∷ [])) in
    let here = ap (λ x. length (made first x (f j)).ands) all.ands in
    let rest = fewer first old f (j + 1) (n - (j + 1)) in
    let e : j + 1 + (n - (j + 1)) ≡ n = omega (arith, lt) in
    let at = ap (λ k. length (made_all first old (listed 0 k f)).ands) e in
    omega (arith, last, parts, here, rest, at, room)

-- ---- a conjunction

pub all-of-last : (w x : Wire) (ws : List Wire) → all_of w (ws ++ x ∷ []) ≡ both (all_of w ws) x
all-of-last w x [] = refl
all-of-last w x (y ∷ ws) = all-of-last (both w y) x ws

-- ---- wires that are begun

made-behind : (first : ℕ) (ands : List And) (w : Wire) →
    (more : List And) × ((made first ands w).ands ≡ ands ++ more)
made-behind first ands (literal l) = ([], sym (append-nil ands))
made-behind first ands (opposed w) = made-behind first ands w
made-behind first ands (both x y) =
    let (p, e) = made-behind first ands x in
    let (q, f) = made-behind first (made first ands x).ands y in
    let last : List And = and_of (made first ands x).literal
    (made first (made first ands x).ands y).literal ∷ [] in (
      p ++ (q ++ last),
      ap (λ l. l ++ last) f ∙ append_assoc (made first ands x).ands q last
          ∙ ap (λ l. l ++ (q ++ last)) e ∙ append_assoc ands p (q ++ last),
    )

pub begins-none : (first : ℕ) (old : List And) (w : Wire) (new : List And) → new ≡ old →
    Begins first old w new
begins-none first old w new is =
    let (more, e) = made-behind first old w in
    ([], more, is ∙ sym (append-nil old), e ∙ ap (λ l. l ++ more) (sym is))

-- where the first of two wires is made
pub begins-left : (first : ℕ) (old : List And) (x y : Wire) (new : List And) →
    new ≡ (made first old x).ands → Begins first old (both x y) new
begins-left first old x y new is =
    let (p, e) = made-behind first old x in
    let (q, f) = made-behind first (made first old x).ands y in
    let last : List And = and_of (made first old x).literal
    (made first (made first old x).ands y).literal ∷ [] in (
      p,
      q ++ last,
      is ∙ e,
      ap (λ l. l ++ last) f ∙ append_assoc (made first old x).ands q last
          ∙ ap (λ l. l ++ (q ++ last)) (sym is),
    )

-- where both are, but not their and
pub begins-both : (first : ℕ) (old : List And) (x y : Wire) (new : List And) →
    new ≡ (made first (made first old x).ands y).ands → Begins first old (both x y) new
begins-both first old x y new is =
    let (p, e) = made-behind first old x in
    let (q, f) = made-behind first (made first old x).ands y in
    let last : List And = and_of (made first old x).literal
    (made first (made first old x).ands y).literal ∷ [] in
    (p ++ q, last, is ∙ f ∙ ap (λ l. l ++ q) e ∙ append_assoc old p q, ap (λ l. l ++ last) (sym is))

pub on-refusal : {A E P Q : Type 0} (r : Result A E) → (P → Q) → OnErr r P → OnErr r Q
on-refusal (Ok a) f h = tt
on-refusal (Err e) f h = f h
