-- Lists place by place.
use Rattle.std.proofs.Common.{◌≡◌, ℕ, zero, suc, ◌+◌, List, [], ◌∷◌, ◌++◌, take, slice_get, Option, Some, None, IfNone, Result, Ok, Err, IfOk, refl, ap, subst, add-one}
use Rattle.hy_formula.specs.Quantifiers.{Each}

-- the elements up to a place and the one there
pub take-next : {A : Type 0} (xs : List A) (i : ℕ) (x : A) → slice_get xs i ≡ Some x
    → take (i + 1) xs ≡ take i xs ++ x ∷ []
take-next {A} xs i x at = rw add-one (by xs i at)
  where
    by : (ys : List A) (j : ℕ) → slice_get ys j ≡ Some x → take (suc j) ys ≡ take j ys ++ x ∷ []
    by [] j e = absurd (cc)
    by (y ∷ ys) zero e = let same : y ≡ x = cc in ap (λ z. z ∷ []) same
    by (y ∷ ys) (suc j) e = ap (λ zs. y ∷ zs) (by ys j e)

module _ {A : Type 0} (P : A → Type 0) where
  pub each-at : (xs : List A) (i : ℕ) (x : A) → Each P xs → slice_get xs i ≡ Some x → P x
  each-at [] i x all at = absurd (cc)
  each-at (y ∷ ys) zero x (p, all) at = let same : y ≡ x = cc in subst P same p
  each-at (y ∷ ys) (suc i) x (p, all) at = each-at ys i x all at

  pub each-from : (xs : List A) → ((i : ℕ) (x : A) → slice_get xs i ≡ Some x → P x) → Each P xs
  each-from [] at = tt
  each-from (x ∷ xs) at = (at 0 x refl, each-from xs (λ i. at (suc i)))

  pub each-front : (n : ℕ) (xs : List A) → Each P xs → Each P (take n xs)
  each-front zero xs all = tt
  each-front (suc n) [] all = tt
  each-front (suc n) (x ∷ xs) (p, all) = (p, each-front n xs all)

  pub each-push : (xs : List A) (x : A) → Each P xs → P x → Each P (xs ++ x ∷ [])
  each-push [] x all p = (p, tt)
  each-push (y ∷ ys) x (q, all) p = (q, each-push ys x all p)

pub none-more : {A P Q : Type 0} (r : Option A) → (P → Q) → IfNone r P → IfNone r Q
none-more None f p = f p
none-more (Some x) f p = tt

pub ok-more : {A E : Type 0} {P Q : A → Type 0} (r : Result A E) → ((x : A) → P x → Q x)
    → IfOk r P → IfOk r Q
ok-more (Ok x) f p = f x p
ok-more (Err e) f p = tt
