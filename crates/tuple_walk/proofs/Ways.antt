-- What may come behind a letter, and past the end of a trace.
use Rattle.std.proofs.Common.{◌≡◌, ℕ, suc, ◌<◌, Bool, true, false, cond, List, [], ◌∷◌, length, map, Some, None, inl, inr, refl, sym, ap, ◌∙◌, subst, arith}
use Rattle.std.specs.List.{Contains, filter}
use Rattle.hy_base.proofs.Members.{contains-here, contains-later, contains-cases, contains-none, map-of, map-from, contains-one}
use Rattle.hy_bits.specs.Letter.{Letter}
use Rattle.hy_finite.specs.Traces.{Trace}
use Rattle.trace_trie.specs.Numbered.{Numbered, same_letter, begins, tail, under, led_by}
use Rattle.trace_trie.proofs.Lettering.{equal-letter, letter-itself}
use Rattle.tuple_walk.specs.Finds.{traces_of}
use Rattle.tuple_walk.specs.JointPrefixes.{entry}
use Rattle.trace_trie.specs.Cursors.{AreLetters}
use Rattle.tuple_walk.specs.Places.{first_letter, IsWay}

pub no-entry : (t : Trace) → entry t ≡ None → t ≡ []
no-entry [] e = refl
no-entry (a ∷ t) e = absurd (cc)

-- a trace is what it has first and what is left behind it
pub same-trace : (t u : Trace) → entry t ≡ entry u → tail t ≡ tail u → t ≡ u
same-trace [] [] e f = refl
same-trace [] (b ∷ u) e f = absurd (cc)
same-trace (a ∷ t) [] e f = absurd (cc)
same-trace (a ∷ t) (b ∷ u) e f = let is : a ≡ b = cc in λ i. is i ∷ f i

from-under : (a : Letter) (rests : List Numbered) (p : Numbered)
    → Contains (led_by a (under a rests)) p → Contains rests p
from-under a [] p c = absurd (contains-none p c)
from-under a ((n, []) ∷ rests) p c = contains-later (n, []) p rests (from-under a rests p c)
from-under a ((n, b ∷ t) ∷ rests) p c = step (from-under a rests p) (same_letter a b) refl c
  where
    step : (Contains (led_by a (under a rests)) p → Contains rests p)
        → (k : Bool) → same_letter a b ≡ k
        → Contains (led_by a (map (λ (q : Numbered). (q.0, tail q.1)) (cond k ((n, b ∷ t)
        ∷ filter (λ (q : Numbered). begins a q.1) rests) (filter (λ (q : Numbered). begins a q.1)
        rests)))) p
        → Contains ((n, b ∷ t) ∷ rests) p
    step ih true e c =
        elim (contains-cases (n, a ∷ t) p (led_by a (under a rests)) c) [
          | inl is ↦
              let P : Numbered → Type 0 = Contains ((n, b ∷ t) ∷ rests) in
              let same : (n, b ∷ t) ≡ p =
              ap (λ (q : Letter). (n, q ∷ t)) (sym (equal-letter a b e)) ∙ is in
              subst P same (contains-here (n, b ∷ t) rests)
          | inr later ↦ contains-later (n, b ∷ t) p rests (ih later)
        ]
    step ih false e c = contains-later (n, b ∷ t) p rests (ih c)

to-under : (a : Letter) (rests : List Numbered) (n : ℕ) (t : Trace) → Contains rests (n, a ∷ t)
    → Contains (led_by a (under a rests)) (n, a ∷ t)
to-under a [] n t c = absurd (contains-none (n, a ∷ t) c)
to-under a ((k, []) ∷ rests) n t c =
    elim (contains-cases (k, []) (n, a ∷ t) rests c) [
      | inl e ↦
          let empty : [] ≡ a ∷ t = ap (λ (q : Numbered). q.1) e in
          absurd (cc)
      | inr later ↦ to-under a rests n t later
    ]
to-under a ((k, b ∷ u) ∷ rests) n t c = step (to-under a rests n t) (same_letter a b) refl
  where
    step : (Contains rests (n, a ∷ t) → Contains (led_by a (under a rests)) (n, a ∷ t))
        → (m : Bool) → same_letter a b ≡ m
        → Contains (led_by a (map (λ (q : Numbered). (q.0, tail q.1)) (cond m ((k, b ∷ u)
        ∷ filter (λ (q : Numbered). begins a q.1) rests) (filter (λ (q : Numbered). begins a q.1)
        rests)))) (n, a ∷ t)
    step ih true e =
        elim (contains-cases (k, b ∷ u) (n, a ∷ t) rests c) [
          | inl is ↦
              let P : Numbered → Type 0 = Contains ((k, a ∷ u) ∷ led_by a (under a rests)) in
              let same : (k, a ∷ u) ≡ (n, a ∷ t) =
              ap (λ (q : Letter). (k, q ∷ u)) (equal-letter a b e) ∙ is in
              subst P same (contains-here (k, a ∷ u) (led_by a (under a rests)))
          | inr later ↦ contains-later (k, a ∷ u) (n, a ∷ t) (led_by a (under a rests)) (ih later)
        ]
    step ih false e =
        elim (contains-cases (k, b ∷ u) (n, a ∷ t) rests c) [
          | inl is ↦
              let letters : b ∷ u ≡ a ∷ t = ap (λ (q : Numbered). q.1) is in
              let same : b ≡ a = cc in
              let yes : same_letter a b ≡ true = ap (same_letter a) same ∙ letter-itself a in
              absurd (cc)
          | inr later ↦ ih later
        ]

pub kept-under : (a : Letter) (rests : List Numbered) (p : Numbered) → entry p.1 ≡ Some a
    → Contains rests p → Contains (led_by a (under a rests)) p
kept-under a rests (n, []) e c = absurd (cc)
kept-under a rests (n, b ∷ t) e c =
    let is : b ≡ a = cc in
    let P : Letter → Type 0 = λ d. Contains rests (n, d ∷ t) in
    let Q : Letter → Type 0 = λ d. Contains {X = Numbered} (led_by a (under a rests)) (n, d ∷ t) in
    subst Q (sym is) (to-under a rests n t (subst P is c))

pub long-led : (a : Letter) (ps : List Numbered) → length (led_by a ps) ≡ length ps
long-led a [] = refl
long-led a (p ∷ ps) = ap suc (long-led a ps)

pub letter-way : (a : Letter) (rests : List Numbered) → 0 < length (under a rests)
    → IsWay rests (Some a) (led_by a (under a rests))
letter-way a rests some = record {
  some = omega (arith, long-led a (under a rests));
  part = from-under a rests;
  first = λ p c.
      let (q, d, e) = map-from (λ (q : Numbered). (q.0, a ∷ q.1)) (under a rests) p c in
      ap (λ (r : Numbered). entry r.1) (sym e);
  whole = whole;
}
  where
    whole : (t : Trace) → Contains (traces_of rests) t → entry t ≡ Some a
        → Contains (traces_of (led_by a (under a rests))) t
    whole [] c e = absurd (cc)
    whole (b ∷ t) c e =
        let same : b ≡ a = cc in
        let ((n, u), d, f) = map-from (λ (q : Numbered). q.1) rests (b ∷ t) c in
        let is : u ≡ a ∷ t = f ∙ ap (λ (q : Letter). q ∷ t) same in
        let P : Trace → Type 0 = λ q. Contains rests (n, q) in
        let Q : Letter → Type 0 = λ q. Contains (traces_of (led_by a (under a rests))) (q ∷ t) in
        subst Q (sym same)
        (map-of (λ (q : Numbered). q.1) (led_by a (under a rests)) (n, a ∷ t)
        (to-under a rests n t (subst P is d)))

pub gap-way : (n : ℕ) (rests : List Numbered) → Contains rests (n, [])
    → IsWay rests None ((n, []) ∷ [])
gap-way n rests c = record {
  some = omega arith;
  part = λ p d.
      let P : Numbered → Type 0 = Contains rests in
      subst P (contains-one (n, []) p d) c;
  first = λ p d. ap (λ (q : Numbered). entry q.1) (sym (contains-one (n, []) p d));
  whole = whole;
}
  where
    whole : (t : Trace) → Contains (traces_of rests) t → entry t ≡ None
        → Contains (traces_of ((n, []) ∷ [])) t
    whole [] c e = contains-here [] []
    whole (b ∷ t) c e = absurd (cc)

some-under : (n : ℕ) (a : Letter) (t : Trace) → 0 < length (under a ((n, a ∷ t) ∷ []))
some-under n a t = at (same_letter a a) (letter-itself a)
  where
    at : (b : Bool) → b ≡ true
        → 0 < length (map {B = Numbered} (λ (p : Numbered). (p.0, tail p.1))
        (cond b ((n, a ∷ t) ∷ []) []))
    at true e = omega arith
    at false e = absurd (cc)

pub alone-letters : (n : ℕ) (t : Trace) → AreLetters (first_letter t) ((n, t) ∷ [])
alone-letters n [] = record { distinct = tt; some = tt; whole = (tt, tt) }
alone-letters n (a ∷ t) = record {
  distinct = (tt, tt);
  some = (some-under n a t, tt);
  whole = (contains-here a [], tt);
}
