-- What a cursor finds.
use Rattle.std.proofs.Common.{◌≡◌, ◌≢◌, ℕ, zero, suc, ◌<◌, cond, List, [], ◌∷◌, ◌++◌, length, append-nil, drop, get_or, slice_get, Some, refl, sym, ap, ◌∙◌, subst, inl, inr, arith}
use Rattle.std.specs.Option.{IfSome, IfNone}
use Rattle.std.specs.List.{Contains}
use Rattle.std.proofs.lemmas.List.Elements.{Contains-append_left, Contains-append_right}
use Rattle.std.proofs.lemmas.Option.{same_Some}
use Rattle.hy_base.proofs.Members.{contains-here, contains-later, contains-cases, contains-none}
use Rattle.hy_bits.specs.Letter.{Letter}
use Rattle.hy_formula.specs.Quantifiers.{Each}
use Rattle.hy_formula.proofs.Each.{each-like}
use Rattle.trace_trie.specs.Numbered.{Numbered, same_letter, led_by, ended, under, in_order, first_number}
use Rattle.trace_trie.specs.Kids.{Kid, AreKids, behind, kid_letters, spread}
use Rattle.trace_trie.specs.Forests.{passing, ends_alone, kids_alone}
use Rattle.trace_trie.specs.Cursors.{AreLetters}
use Rattle.trace_trie.proofs.Alone.{alone-rests, alone-kids}
use Rattle.trace_trie.proofs.Lettering.{letter-itself, same-false}
use Rattle.trace_trie.proofs.Ordering.{in-order-under, each-in-order, length-in-order, contains-in-order}
use Rattle.trace_trie.proofs.Rests.{spread-append, spread-some, under-passing, letters-distinct, letters-some, letters-whole}

module _ (ends : List Numbered) (kids : List Kid) where
  pub letters-right : AreKids kids → AreLetters (kid_letters kids) (in_order (passing ends kids))
  letters-right h = record {
    distinct = letters-distinct kids h;
    some = each-like (λ (a : Letter). 0 < length (behind a kids)) (λ (a : Letter). 0 < length (under a (in_order (passing ends kids)))) long (kid_letters kids) (letters-some kids h);
    whole = each-in-order _ (passing ends kids) (letters-whole ends kids);
  }
    where
      long : (a : Letter) → 0 < length (behind a kids) → 0 < length (under a (in_order (passing ends kids)))
      long a lt =
          let e : length (under a (in_order (passing ends kids))) ≡ length (behind a kids) =
          ap length (sym (in-order-under a (passing ends kids)) ∙ ap in_order (under-passing a ends kids h)) ∙ length-in-order (behind a kids) in
          omega (arith, e, lt)

  pub first-some : IfSome (first_number ends) (λ n. Contains (in_order (passing ends kids)) (n, []))
  first-some = by-cases ends
    where
      by-cases : (ps : List Numbered) → IfSome (first_number ps) (λ n. Contains (in_order (passing ps kids)) (n, []))
      by-cases [] = tt
      by-cases (p ∷ ps) = contains-in-order (p.0, []) (passing (p ∷ ps) kids) (contains-here (p.0, []) (ended ps ++ spread kids))

  pub first-none : IfNone (first_number ends) (Each (λ (p : Numbered). 0 < length p.1) (in_order (passing ends kids)))
  first-none = by-cases ends
    where
      by-cases : (ps : List Numbered) → IfNone (first_number ps) (Each (λ (p : Numbered). 0 < length p.1) (in_order (passing ps kids)))
      by-cases [] = each-in-order (λ (p : Numbered). 0 < length p.1) (spread kids) (spread-some kids)
      by-cases (p ∷ ps) = tt

-- ---- a child by its place

letter-at : (P : Letter → Type 0) (ks : List Kid) (i : ℕ) (a : Letter) → Each (λ (k : Kid). P k.0) ks → slice_get (kid_letters ks) i ≡ Some a → P a
letter-at P [] i a h e = absurd (cc)
letter-at P (k ∷ ks) zero a h e = subst P (same_Some k.0 a e) h.0
letter-at P (k ∷ ks) (suc i) a h e = letter-at P ks i a h.1 e

kid-at : (ks : List Kid) (i : ℕ) (a : Letter) (k : Kid) → AreKids ks → slice_get ks i ≡ Some k → slice_get (kid_letters ks) i ≡ Some a → behind a ks ≡ k.1
kid-at [] i a k h e f = absurd (cc)
kid-at (o ∷ ks) zero a k h e f =
    let same : o.0 ≡ a = same_Some o.0 a f in
    let P : Letter → Type 0 = λ (q : Letter). cond (same_letter q o.0) o.1 (behind q ks) ≡ o.1 in
    subst P same (ap (λ b. cond b o.1 (behind o.0 ks)) (letter-itself o.0)) ∙ ap (λ (q : Kid). q.1) (same_Some o k e)
kid-at (o ∷ ks) (suc i) a k h e f =
    let apart : a ≡ o.0 → ⊥ = letter-at (λ (b : Letter). b ≢ o.0) ks i a h.1 f in
    ap (λ b. cond b o.1 (behind a ks)) (same-false a o.0 (λ s. apart (sym s))) ∙ kid-at ks i a k h.2 e f

pub child-right : (ends : List Numbered) (kids : List Kid) (i : ℕ) (a : Letter) (k : Kid) → AreKids kids → slice_get kids i ≡ Some k → slice_get (kid_letters kids) i ≡ Some a
    → in_order k.1 ≡ under a (in_order (passing ends kids))
child-right ends kids i a k h e f =
    ap in_order (sym (kid-at kids i a k h e f) ∙ sym (under-passing a ends kids h)) ∙ in-order-under a (passing ends kids)

-- ---- some trace

contains-led : (a : Letter) (p : Numbered) (ps : List Numbered) → Contains ps p → Contains (led_by a ps) (p.0, a ∷ p.1)
contains-led a p [] c = absurd (contains-none p c)
contains-led a p (q ∷ qs) c = elim (contains-cases q p qs c) [
  | inl same ↦
      let P : Numbered → Type 0 = λ (x : Numbered). Contains (led_by a (q ∷ qs)) (x.0, a ∷ x.1) in
      subst P same (contains-here (q.0, a ∷ q.1) (led_by a qs))
  | inr later ↦ contains-later (q.0, a ∷ q.1) (p.0, a ∷ p.1) (led_by a qs) (contains-led a p qs later)
]

module _ (a : Letter) (ends : List Numbered) (kids : List Kid) where
  within : (n : ℕ) (t : List Letter) → Contains (passing ends kids) (n, t) → Contains (spread ((a, passing ends kids) ∷ [])) (n, a ∷ t)
  within n t c =
      let P : List Numbered → Type 0 = λ (q : List Numbered). Contains q (n, a ∷ t) in
      subst P (sym (append-nil (led_by a (passing ends kids)))) (contains-led a (n, t) (passing ends kids) c)

  pub any-ended : (n : ℕ) → first_number ends ≡ Some n → (t : List Letter) × Contains (spread ((a, passing ends kids) ∷ [])) (n, t)
  any-ended n e = (a ∷ [], within n [] (by-cases ends e))
    where
      by-cases : (ps : List Numbered) → first_number ps ≡ Some n → Contains (passing ps kids) (n, [])
      by-cases [] e = absurd (cc)
      by-cases (p ∷ ps) e =
          let same : p.0 ≡ n = same_Some p.0 n e in
          let P : ℕ → Type 0 = λ (q : ℕ). Contains (passing (p ∷ ps) kids) (q, []) in
          subst P same (contains-here (p.0, []) (ended ps ++ spread kids))

  pub any-behind : (n : ℕ) → ((t : List Letter) × Contains (spread kids) (n, t)) → (t : List Letter) × Contains (spread ((a, passing ends kids) ∷ [])) (n, t)
  any-behind n (t, c) = (a ∷ t, within n t (Contains-append_right (ended ends) (spread kids) (n, t) c))

pub any-left : (l r : List Kid) (n : ℕ) → ((t : List Letter) × Contains (spread l) (n, t)) → (t : List Letter) × Contains (spread (l ++ r)) (n, t)
any-left l r n (t, c) =
    let P : List Numbered → Type 0 = λ (q : List Numbered). Contains q (n, t) in
    (t, subst P (sym (spread-append l r)) (Contains-append_left (spread l) (spread r) (n, t) c))

pub any-passing : (ends : List Numbered) (kids : List Kid) (n : ℕ) → ((t : List Letter) × Contains (spread kids) (n, t)) → (t : List Letter) × Contains (in_order (passing ends kids)) (n, t)
any-passing ends kids n (t, c) = (t, contains-in-order (n, t) (passing ends kids) (Contains-append_right (ended ends) (spread kids) (n, t) c))

-- ---- where one trace alone passes

module _ (n : ℕ) (t : List Letter) where
  pub alone-letters : AreLetters (kid_letters (kids_alone n t))
      (in_order (passing (ends_alone n t) (kids_alone n t)))
  alone-letters = letters-right (ends_alone n t) (kids_alone n t) (alone-kids n t)

  pub alone-below : (u : List Letter)
      × Contains (in_order (passing (ends_alone n t) (kids_alone n t))) (n, u)
  alone-below =
      let P : List Numbered → Type 0 = λ q. Contains q (n, t) in
      (t, subst P (sym (alone-rests n t)) (contains-here (n, t) []))

  pub alone-child : (i : ℕ) (d : Letter) → i < length (kid_letters (kids_alone n t))
      → (n, drop 1 t) ∷ []
      ≡ under (get_or t 0 d) (in_order (passing (ends_alone n t) (kids_alone n t)))
  alone-child i d lt = by t lt
    where
      by : (t : List Letter) → i < length (kid_letters (kids_alone n t))
          → (n, drop 1 t) ∷ []
          ≡ under (get_or t 0 d) (in_order (passing (ends_alone n t) (kids_alone n t)))
      by [] lt = absurd (omega arith)
      by (b ∷ u) lt =
          child-right [] (kids_alone n (b ∷ u)) 0 b (b, (n, u) ∷ []) (alone-kids n (b ∷ u)) refl refl
