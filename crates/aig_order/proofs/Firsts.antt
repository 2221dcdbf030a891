-- What is found first, and tests of the numbers below one.
use Rattle.std.proofs.Common.{◌≡◌, ℕ, zero, suc, ◌<◌, ◌⊎◌, Bool, true, false, nat_eq, inl, inr, refl, sym, ◌∙◌, ap, subst, arith, ◌≤◌, Option, Some, None, List, [], ◌∷◌, ◌++◌, length, get_or}
use Rattle.std.proofs.lemmas.Bool.{cases_eq, eqb-true, eq-eqb, or_left, or_right, or_cases}
use Rattle.aig_order.specs.Firsts.{when, otherwise, first_some, first_below, any_below, holds}

module _ {A : Type 0} (f : ℕ → Option A) where
  none-step : (n : ℕ) (o : Option A) → first_some n f ≡ o → otherwise o (f n) ≡ None → (o ≡ None) × (f n ≡ None)
  none-step n (Some y) is e = absurd (cc)
  none-step n None is e = (refl, e)

  pub first-none : (n : ℕ) → first_some n f ≡ None → (j : ℕ) → j < n → f j ≡ None
  first-none zero e j lt = absurd (omega arith)
  first-none (suc n) e j lt =
      let (before, here) = none-step n (first_some n f) refl e in
      elim (cases_eq j n) [
        | inl same ↦ let P : ℕ → Type 0 = λ q. f q ≡ None in subst P (sym same) here
        | inr apart ↦ first-none n before j (omega arith)
      ]

  found-step : (n : ℕ) (x : A) (o : Option A) → first_some n f ≡ o → otherwise o (f n) ≡ Some x → (o ≡ Some x) ⊎ ((first_some n f ≡ None) × (f n ≡ Some x))
  found-step n x (Some y) is e = inl e
  found-step n x None is e = inr (is, e)

  -- what is found stands at the first number that has something
  pub first-found : (n : ℕ) (x : A) → first_some n f ≡ Some x → (k : ℕ) × (k < n) × (f k ≡ Some x) × ((j : ℕ) → j < k → f j ≡ None)
  first-found zero x e = absurd (cc)
  first-found (suc n) x e =
      elim (found-step n x (first_some n f) refl e) [
        | inl before ↦ let (k, lt, here, none) = first-found n x before in (k, omega arith, here, none)
        | inr (none, here) ↦ (n, omega arith, here, first-none n none)
      ]

pub when-some : {A : Type 0} (b : Bool) (a c : A) → when b a ≡ Some c → (b ≡ true) × (a ≡ c)
when-some true a c e = (refl, cc)
when-some false a c e = absurd (cc)

pub when-none : {A : Type 0} (b : Bool) (a : A) → when b a ≡ None → b ≡ false
when-none true a e = absurd (cc)
when-none false a e = refl

pub below-found : (n : ℕ) (test : ℕ → Bool) (k : ℕ) → first_below n test ≡ Some k → (k < n) × (test k ≡ true)
below-found n test k e =
    let (q, lt, here, none) = first-found (λ k. when (test k) k) n k e in
    let (t, same) = when-some (test q) q k here in
    let P : ℕ → Type 0 = λ m. (m < n) × (test m ≡ true) in
    subst P same (lt, t)

pub below-none : (n : ℕ) (test : ℕ → Bool) → first_below n test ≡ None → (j : ℕ) → j < n → test j ≡ false
below-none n test e j lt = when-none _ _ (first-none (λ k. when (test k) k) n e j lt)

pub any-some : (n : ℕ) (test : ℕ → Bool) → any_below n test ≡ true → (j : ℕ) × (j < n) × (test j ≡ true)
any-some zero test e = absurd (cc)
any-some (suc n) test e =
    elim (or_cases (any_below n test) (test n) e) [
      | inl more ↦ let (j, lt, t) = any-some n test more in (j, omega arith, t)
      | inr here ↦ (n, omega arith, here)
    ]

pub some-any : (n : ℕ) (test : ℕ → Bool) (j : ℕ) → j < n → test j ≡ true → any_below n test ≡ true
some-any zero test j lt t = absurd (omega arith)
some-any (suc n) test j lt t =
    elim (cases_eq j n) [
      | inl same ↦ let P : ℕ → Type 0 = λ q. test q ≡ true in or_right (any_below n test) (test n) (subst P same t)
      | inr apart ↦ or_left _ _ (some-any n test j (omega arith) t)
    ]

pub holds-place : (v : ℕ) (list : List ℕ) → holds v list ≡ true → (q : ℕ) × (q < length list) × (get_or list q 0 ≡ v)
holds-place v [] e = absurd (cc)
holds-place v (x ∷ xs) e =
    elim (or_cases (nat_eq v x) (holds v xs) e) [
      | inl here ↦ (zero, omega arith, sym (eqb-true v x here))
      | inr more ↦ let (q, lt, is) = holds-place v xs more in (suc q, omega arith, is)
    ]

pub place-holds : (v : ℕ) (list : List ℕ) (q : ℕ) → q < length list → get_or list q 0 ≡ v → holds v list ≡ true
place-holds v [] q lt e = absurd (omega arith)
place-holds v (x ∷ xs) zero lt e = or_left (nat_eq v x) (holds v xs) (eq-eqb v x (sym e))
place-holds v (x ∷ xs) (suc q) lt e = or_right (nat_eq v x) (holds v xs) (place-holds v xs q (omega arith) e)

pub none-both : {A : Type 0} (a b : Option A) → otherwise a b ≡ None → (a ≡ None) × (b ≡ None)
none-both (Some x) b e = absurd (cc)
none-both None b e = (refl, e)

-- what is found is found among more, too
pub first-more : {A : Type 0} (find : ℕ → Option A) (m n : ℕ) (a : A) → m ≤ n → first_some m find ≡ Some a → first_some n find ≡ Some a
first-more find m zero a le e = let q : m ≡ 0 = omega arith in ap (λ k. first_some k find) (sym q) ∙ e
first-more find m (suc n) a le e =
    elim (cases_eq m (suc n)) [
      | inl same ↦ ap (λ k. first_some k find) (sym same) ∙ e
      | inr apart ↦ ap (λ o. otherwise o (find n)) (first-more find m n a (omega arith) e)
    ]

-- where nothing is found before, what is found here is the first
pub first-here : {A : Type 0} (find : ℕ → Option A) (n : ℕ) → first_some n find ≡ None → first_some (suc n) find ≡ find n
first-here find n e = ap (λ o. otherwise o (find n)) e

pub holds-left : (v : ℕ) (xs ys : List ℕ) → holds v xs ≡ true → holds v (xs ++ ys) ≡ true
holds-left v [] ys e = absurd (cc)
holds-left v (x ∷ xs) ys e =
    elim (or_cases (nat_eq v x) (holds v xs) e) [ inl here ↦ or_left _ _ here | inr more ↦ or_right (nat_eq v x) _ (holds-left v xs ys more) ]

pub holds-right : (v : ℕ) (xs ys : List ℕ) → holds v ys ≡ true → holds v (xs ++ ys) ≡ true
holds-right v [] ys e = e
holds-right v (x ∷ xs) ys e = or_right (nat_eq v x) _ (holds-right v xs ys e)

pub holds-append : (v : ℕ) (xs ys : List ℕ) → holds v (xs ++ ys) ≡ true → (holds v xs ≡ true) ⊎ (holds v ys ≡ true)
holds-append v [] ys e = inr e
holds-append v (x ∷ xs) ys e =
    elim (or_cases (nat_eq v x) _ e) [
      | inl here ↦ inl (or_left _ _ here)
      | inr rest ↦ elim (holds-append v xs ys rest) [ inl a ↦ inl (or_right (nat_eq v x) _ a) | inr b ↦ inr b ]
    ]
