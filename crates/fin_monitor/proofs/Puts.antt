-- Families that are put into a set of families.
use Rattle.std.proofs.Common.{◌≡◌, ◌<◌, ℕ, zero, suc, Bool, true, false, not, ◌||◌, ◌&&◌, nat_eq, cond, if◌then◌else◌, List, [], ◌∷◌, ◌++◌, length, get_or, slice_get, Some, Vec, vec_items, refl, sym, ap, ◌∙◌, subst, arith}
use Rattle.std.specs.List.{list_any}
use Rattle.std.specs.Cmp.Lexicographic.{pointwise}
use Rattle.std.proofs.lemmas.Bool.{eq-eqb, eqb-true, not-true, and_parts, and_from}
use Rattle.hy_bits.specs.Binary.{number}
use Rattle.fin_monitor.specs.Duties.{Duty, residual_at}
use Rattle.fin_monitor.specs.Lefts.{kept_lists}
use Rattle.fin_monitor.specs.Tables.{Puts}
use Rattle.fin_monitor.proofs.Order.{duty-by, same-number}
use Rattle.fin_monitor.proofs.Stepping.{kept-push, kept-length, list-there}

-- what `==` of duties computes
abbrev pub equal : Duty → Duty → Bool
equal d e = nat_eq (number d.strong) (number e.strong) && nat_eq (number d.weak) (number e.weak)

equal-same : (d e : Duty) → equal d e ≡ true → d ≡ e
equal-same d e is =
    let (s, w) = and_parts (nat_eq (number d.strong) (number e.strong)) (nat_eq (number d.weak) (number e.weak)) is in
    duty-by d e (same-number d.strong e.strong (eqb-true _ _ s)) (same-number d.weak e.weak (eqb-true _ _ w))

same-equal : (d e : Duty) → d ≡ e → equal d e ≡ true
same-equal d e is = and_from (nat_eq (number d.strong) (number e.strong)) _ (eq-eqb _ _ (ap (λ (x : Duty). number x.strong) is)) (eq-eqb _ _ (ap (λ (x : Duty). number x.weak) is))

pub lists-same : (xs ys : List Duty) → pointwise equal xs ys ≡ true → xs ≡ ys
lists-same [] [] is = refl
lists-same [] (y ∷ ys) is = absurd (cc)
lists-same (x ∷ xs) [] is = absurd (cc)
lists-same (x ∷ xs) (y ∷ ys) is =
    let (h, t) = and_parts (equal x y) (pointwise equal xs ys) is in
    ap (λ z. z ∷ xs) (equal-same x y h) ∙ ap (λ zs. y ∷ zs) (lists-same xs ys t)

pub same-lists : (xs ys : List Duty) → xs ≡ ys → pointwise equal xs ys ≡ true
same-lists xs ys e = let P : List Duty → Type 0 = λ l. pointwise equal xs l ≡ true in subst P e (itself xs)
  where
    itself : (zs : List Duty) → pointwise equal zs zs ≡ true
    itself [] = refl
    itself (z ∷ zs) = and_from (equal z z) (pointwise equal zs zs) (same-equal z z refl) (itself zs)

module _ {A : Type 0} (old new : List (Vec Duty A)) (v : Vec Duty A) (n : ℕ) where
  abbrev test : Vec Duty A → Bool
  test y = pointwise equal (vec_items v) (vec_items y)

  kept-new : (b : Bool) → new ≡ (if b then old else old ++ v ∷ []) → kept_lists new ≡ cond (not b) (kept_lists old ++ vec_items v ∷ []) (kept_lists old)
  kept-new true e = ap (λ l. kept_lists l) e
  kept-new false e = ap (λ l. kept_lists l) e ∙ kept-push old v

  not-there : (vs : List (Vec Duty A)) → list_any test vs ≡ false → (q : ℕ) → q < length (kept_lists vs) → ¬ (residual_at (kept_lists vs) q ≡ vec_items v)
  not-there [] none q lt e = omega arith
  not-there (x ∷ xs) none zero lt e = let is : test x ≡ true = same-lists (vec_items v) (vec_items x) (sym e) in step (test x) is none
    where
      step : (b : Bool) → b ≡ true → (b || list_any test xs) ≡ false → ⊥
      step true is none = cc
      step false is none = cc
  not-there (x ∷ xs) none (suc q) lt e = not-there xs (step (test x) none) q (omega arith) e
    where
      step : (b : Bool) → (b || list_any test xs) ≡ false → list_any test xs ≡ false
      step true none = absurd (cc)
      step false none = none

  pub puts-family : new ≡ (if list_any test old then old else old ++ v ∷ []) → n < length new → (k : Vec Duty A) × (slice_get new n ≡ Some k) × (test k ≡ true) → Puts (kept_lists old) (vec_items v) (kept_lists new) n
  puts-family keys lt (k, at, is) =
      record {
        is_new = not (list_any test old);
        within = omega (arith, kept-length new);
        at = list-there new n k at ∙ sym (lists-same (vec_items v) (vec_items k) is);
        list = kept-new (list_any test old) keys;
        was = λ e. not-there old (not-true (list_any test old) e);
      }

pub list-index : {A : Type 0} (lists : List (Vec Duty A)) (k : ℕ) (v : Vec Duty A) → k < length lists → v ≡ get_or lists k v → residual_at (kept_lists lists) k ≡ vec_items v
list-index [] k v lt e = absurd (omega arith)
list-index {A} (x ∷ xs) zero v lt e = ap (λ (b : Vec Duty A). vec_items b) (sym e)
list-index (x ∷ xs) (suc k) v lt e = list-index xs k v (omega arith) e
