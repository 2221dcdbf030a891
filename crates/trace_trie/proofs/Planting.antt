-- One trace more, by children and by the parts of a fork.
use Rattle.std.proofs.Common.{◌≡◌, ℕ, ◌+◌, ◌<◌, true, false, List, [], ◌∷◌, ◌++◌, length, length-append, append_assoc, append-nil, drop, slice_get, Some, refl, ap, sym, ◌∙◌, subst, arith}
use Rattle.std.proofs.lemmas.List.{map-append}
use Rattle.std.specs.FinSet.{contains}
use Rattle.hy_base.proofs.Places.{drop-at}
use Rattle.hy_bits.specs.Letter.{Letter}
use Rattle.hy_formula.specs.Quantifiers.{Each}
use Rattle.hy_formula.proofs.Each.{each-append, each-left, each-right}
use Rattle.trace_trie.specs.Numbered.{Numbered, same_letter, letters_in, led_by, ended}
use Rattle.trace_trie.specs.Kids.{Kid, AreKids, IsSwapped, IsMore, behind, spread}
use Rattle.trace_trie.specs.Forests.{passing}
use Rattle.trace_trie.specs.ForestsFall.{letters-append, letters-led, letters-ended, letters-spread, some-left, some-right}
use Rattle.trace_trie.proofs.Alone.{child-here}
use Rattle.trace_trie.proofs.Forked.{AtFork, AtChild}
use Rattle.trace_trie.proofs.Kids.{kids-append}
use Rattle.trace_trie.proofs.Lettering.{equal-letter, letter-itself, drop-end}
use Rattle.trace_trie.proofs.Rests.{spread-append, spread-each, each-behind, more-led, more-within, more-spread}

-- ---- one more

pub more-same : {p : Numbered} (old new : List Kid) {old' new' : List Kid} → old' ≡ old
    → new ≡ new' → IsMore p (spread old') (spread new') → IsMore p (spread old) (spread new)
more-same {p} old new {old'} {new'} e f m =
    let P : List Kid → Type 0 = λ q. IsMore p (spread q) (spread new) in
    let Q : List Kid → Type 0 = λ q. IsMore p (spread old') (spread q) in
    subst P e (subst Q (sym f) m)

more-after : (xs : List Numbered) {p : Numbered} {old new : List Numbered} → IsMore p old new → IsMore p (xs ++ old) (xs ++ new)
more-after xs {p} {old} {new} m = record {
  before = xs ++ m.before;
  after = m.after;
  old_is = ap (λ l. xs ++ l) m.old_is ∙ sym (append_assoc xs m.before m.after);
  new_is = ap (λ l. xs ++ l) m.new_is ∙ sym (append_assoc xs m.before (p ∷ m.after));
}

module _ {p : Numbered} (old new : List Kid) (m : IsMore p (spread old) (spread new)) where
  pub more-first : (r : List Kid) → IsMore p (spread (old ++ r)) (spread (new ++ r))
  more-first r =
      rw (spread-append old r, spread-append new r)
      (more-within p [] (spread r) (spread old) (spread new) m)

  pub more-second : (l : List Kid) → IsMore p (spread (l ++ old)) (spread (l ++ new))
  more-second l = rw (spread-append l old, spread-append l new) (more-after (spread l) m)

  pub more-passing : (ends : List Numbered) → IsMore p (passing ends old) (passing ends new)
  more-passing ends = more-after (ended ends) m

more-ended : (n : ℕ) (t : List Letter) (ends : List Numbered) (kids : List Kid)
    → IsMore (n, []) (passing ends kids) (passing (ends ++ (n, t) ∷ []) kids)
more-ended n t ends kids = record {
  before = ended ends;
  after = spread kids;
  old_is = refl;
  new_is =
      ap (λ l. l ++ spread kids)
      (map-append (λ (p : Numbered). (p.0, [])) ends ((n, t) ∷ []))
      ∙ append_assoc (ended ends) ((n, []) ∷ []) (spread kids);
}

more-child : (a : Letter) {n : ℕ} {t : List Letter} {old new : List Numbered}
    → IsMore (n, t) old new → IsMore (n, a ∷ t) (spread ((a, old) ∷ [])) (spread ((a, new) ∷ []))
more-child a {n} {t} {old} {new} m =
    rw (append-nil (led_by a old), append-nil (led_by a new)) (more-led a n t old new m)

-- ---- the letters of the children

abbrev IsLed : (Letter → Type 0) → List Letter → Type 0
IsLed P [] = Unit {0}
IsLed P (a ∷ t) = P a

module _ (P : Letter → Type 0) where
  each-more : {p : Numbered} {old new : List Numbered} → IsMore p old new → IsLed P p.1
      → Each (λ (q : Numbered). IsLed P q.1) old → Each (λ (q : Numbered). IsLed P q.1) new
  each-more {p} {old} {new} m here h =
      let Q : Numbered → Type 0 = λ (q : Numbered). IsLed P q.1 in
      let R : List Numbered → Type 0 = Each Q in
      let whole : R (m.before ++ m.after) = subst R m.old_is h in
      subst R (sym m.new_is)
      (each-append Q m.before (p ∷ m.after) (each-left Q m.before m.after whole)
      (here, each-right Q m.before m.after whole))

  each-kids : (kids : List Kid) → AreKids kids
      → Each (λ (q : Numbered). IsLed P q.1) (spread kids) → Each (λ (k : Kid). P k.0) kids
  each-kids [] h e = tt
  each-kids (k ∷ ks) h e =
      let Q : Numbered → Type 0 = λ (q : Numbered). IsLed P q.1 in
      (first k.1 h.0 (each-left Q (led_by k.0 k.1) (spread ks) e), each-kids ks h.2 (each-right Q (led_by k.0 k.1) (spread ks) e))
    where
      first : (ps : List Numbered) → 0 < length ps
          → Each (λ (q : Numbered). IsLed P q.1) (led_by k.0 ps) → P k.0
      first [] lt e = absurd (omega arith)
      first (p ∷ ps) lt e = e.0

  each-planted : {n : ℕ} {a : Letter} {t : List Letter} (old new : List Kid)
      → IsMore (n, a ∷ t) (spread old) (spread new) → AreKids new → P a
      → Each (λ (k : Kid). P k.0) old → Each (λ (k : Kid). P k.0) new
  each-planted {n} {a} {t} old new m kids here h =
      each-kids new kids
      (each-more m here (spread-each (λ (q : Numbered). IsLed P q.1) P (λ n b t q. q) old h))

-- ---- the parts of a fork

kids-some : {p : Numbered} {old : List Numbered} (new : List Kid) → IsMore p old (spread new) → 0 < length new
kids-some {p} [] m = absurd (omega (arith, ap length m.new_is, length-append m.before (p ∷ m.after)))
kids-some (k ∷ ks) m = omega arith

module _ {list l r : List Kid} {name : ℕ} (at : AtFork list name l r) where
  pub fall-first : letters_in (spread l) < letters_in (spread list)
  fall-first =
      omega (
        arith,
        ap (λ (q : List Kid). letters_in (spread q)) at.is,
        letters-spread l r,
        some-right l r at.kids at.second,
      )

  pub fall-second : letters_in (spread r) < letters_in (spread list)
  fall-second =
      omega (
        arith,
        ap (λ (q : List Kid). letters_in (spread q)) at.is,
        letters-spread l r,
        some-left l r at.kids at.first,
      )

  module _ {n : ℕ} (i : ℕ) (t : List Letter) {a : Letter} {new : List Kid} (here : slice_get t i ≡ Some a) where
    pub fork-first : contains a name ≡ false → IsMore (n, drop i t) (spread l) (spread new)
        → AreKids new → AreKids r → AtFork (new ++ r) name new r
    fork-first e m h k =
        let P : List Letter → Type 0 = λ q. IsMore (n, q) (spread l) (spread new) in
        let lack : Each (λ (k : Kid). contains k.0 name ≡ false) new =
        each-planted (λ (b : Letter). contains b name ≡ false) l new (subst P (drop-at t i a here) m) h e at.lack in
        record {
          is = refl;
          below = at.below;
          lack = lack;
          have = at.have;
          first = kids-some new m;
          second = at.second;
          kids = kids-append name new r h k lack at.have;
        }

    pub fork-second : contains a name ≡ true → IsMore (n, drop i t) (spread r) (spread new)
        → AreKids l → AreKids new → AtFork (l ++ new) name l new
    fork-second e m h k =
        let P : List Letter → Type 0 = λ q. IsMore (n, q) (spread r) (spread new) in
        let have : Each (λ (k : Kid). contains k.0 name ≡ true) new =
        each-planted (λ (b : Letter). contains b name ≡ true) r new (subst P (drop-at t i a here) m) k e at.have in
        record {
          is = refl;
          below = at.below;
          lack = at.lack;
          have = have;
          first = at.first;
          second = kids-some new m;
          kids = kids-append name l new h k at.lack have;
        }

-- fewer letters are left behind a child
pub fall-child : {list : List Kid} {a : Letter} (ends : List Numbered) (kids : List Kid)
    → AtChild list a (passing ends kids) → letters_in (spread kids) < letters_in (spread list)
fall-child {list} {a} ends kids at =
    let held : List Numbered = passing ends kids in
    omega (
      arith,
      at.some,
      ap (λ (q : List Kid). letters_in (spread q)) at.is,
      letters-append (led_by a held) [],
      letters-led a held,
      letters-append (ended ends) (spread kids),
      letters-ended ends,
    )

-- ---- what holds of the parts, and of the child

module _ {list l r : List Kid} {name : ℕ} (at : AtFork list name l r) (P : Numbered → Type 0) where
  parts : Each P (spread list) → Each P (spread l ++ spread r)
  parts = subst (λ (q : List Numbered). Each P q) (ap spread at.is ∙ spread-append l r)

  pub each-first : Each P (spread list) → Each P (spread l)
  each-first h = each-left P (spread l) (spread r) (parts h)

  pub each-second : Each P (spread list) → Each P (spread r)
  each-second h = each-right P (spread l) (spread r) (parts h)

module _ {list : List Kid} {a : Letter} {held : List Numbered} (at : AtChild list a held) where
  pub above-child : (n : ℕ) → Each (λ (p : Numbered). p.0 < n) (spread list)
      → Each (λ (p : Numbered). p.0 < n) held
  above-child n h =
      subst (λ (q : List Numbered). Each (λ (p : Numbered). p.0 < n) q)
      (child-here at a (letter-itself a)) (each-behind (λ (p : Numbered). p.0 < n) a list h)

  pub more-below : (i : ℕ) (t : List Letter) {b : Letter} {n : ℕ} {new : List Numbered}
      → slice_get t i ≡ Some b → same_letter b a ≡ true → IsMore (n, drop (i + 1) t) held new
      → IsMore (n, drop i t) (spread list) (spread ((a, new) ∷ []))
  more-below i t {b} {n} {new} e same m =
      let left : drop i t ≡ a ∷ drop (i + 1) t =
      drop-at t i b e ∙ ap (λ (q : Letter). q ∷ drop (i + 1) t) (equal-letter b a same) in
      let P : List Letter → Type 0 = λ q. IsMore (n, q) (spread list) (spread ((a, new) ∷ [])) in
      let Q : List Kid → Type 0 =
      λ q. IsMore (n, a ∷ drop (i + 1) t) (spread q) (spread ((a, new) ∷ [])) in
      subst P (sym left) (subst Q (sym at.is) (more-child a m))

-- ---- what is left of a trace

pub more-put : (at : ℕ) (t : List Letter) {a : Letter} {n : ℕ} {held : List Numbered}
    {old new : List Kid} → slice_get t at ≡ Some a → IsSwapped a held old new
    → IsMore (n, drop (at + 1) t) (behind a old) held
    → IsMore (n, drop at t) (spread old) (spread new)
more-put at t {a} {n} {held} {old} {new} e s m =
    let P : List Letter → Type 0 = λ q. IsMore (n, q) (spread old) (spread new) in
    subst P (sym (drop-at t at a e)) (more-spread [] s m)

-- the end of a trace, where one letter is left
pub more-end : (n at : ℕ) (t : List Letter) (ends : List Numbered) (kids : List Kid)
    → at + 1 ≡ length t
    → IsMore (n, drop (at + 1) t) (passing ends kids) (passing (ends ++ (n, t) ∷ []) kids)
more-end n at t ends kids e =
    let P : List Letter → Type 0 =
    λ q. IsMore (n, q) (passing ends kids) (passing (ends ++ (n, t) ∷ []) kids) in
    subst P (sym (drop-end t (at + 1) e)) (more-ended n t ends kids)
