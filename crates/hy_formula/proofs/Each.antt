-- What holds of each element of a list.
use Rattle.std.proofs.Common.{ℕ, zero, suc, ◌<◌, Bool, true, false, cond, List, [], ◌∷◌, ◌++◌, length, map, get_or, inl, inr, subst, arith}
use Rattle.std.specs.List.{Contains, filter}
use Rattle.hy_base.proofs.Members.{contains-here, contains-later, contains-cases, contains-none}
use Rattle.hy_formula.specs.Quantifiers.{Each}

module _ {A : Type 0} (P : A → Type 0) where
  pub each-from : (xs : List A) → ((x : A) → Contains xs x → P x) → Each P xs
  each-from [] h = tt
  each-from (x ∷ xs) h = (h x (contains-here x xs), each-from xs (λ y c. h y (contains-later x y xs c)))

  pub each-at : (xs : List A) (x : A) → Each P xs → Contains xs x → P x
  each-at [] x h c = absurd (contains-none x c)
  each-at (y ∷ ys) x h c =
      elim (contains-cases y x ys c) [ inl e ↦ subst P e h.0 | inr later ↦ each-at ys x h.1 later ]

  pub each-place : (xs : List A) (d : A) → Each P xs → (k : ℕ) → k < length xs → P (get_or xs k d)
  each-place [] d h k lt = absurd (omega arith)
  each-place (x ∷ xs) d h zero lt = h.0
  each-place (x ∷ xs) d h (suc k) lt = each-place xs d h.1 k (omega arith)

  pub each-append : (xs ys : List A) → Each P xs → Each P ys → Each P (xs ++ ys)
  each-append [] ys h k = k
  each-append (x ∷ xs) ys h k = (h.0, each-append xs ys h.1 k)

  pub each-left : (xs ys : List A) → Each P (xs ++ ys) → Each P xs
  each-left [] ys h = tt
  each-left (x ∷ xs) ys h = (h.0, each-left xs ys h.1)

  pub each-right : (xs ys : List A) → Each P (xs ++ ys) → Each P ys
  each-right [] ys h = h
  each-right (x ∷ xs) ys h = each-right xs ys h.1

  pub each-map : {B : Type 0} (f : B → A) (xs : List B) → Each (λ x. P (f x)) xs → Each P (map f xs)
  each-map f [] h = tt
  each-map f (x ∷ xs) h = (h.0, each-map f xs h.1)

  pub each-unmap : {B : Type 0} (f : B → A) (xs : List B) → Each P (map f xs) → Each (λ x. P (f x)) xs
  each-unmap f [] h = tt
  each-unmap f (x ∷ xs) h = (h.0, each-unmap f xs h.1)

  pub each-filter : (p : A → Bool) (xs : List A) → Each P xs → Each P (filter p xs)
  each-filter p [] h = tt
  each-filter p (x ∷ xs) h = step (p x) (each-filter p xs h.1)
    where
      step : (b : Bool) → Each P (filter p xs) → Each P (cond b (x ∷ filter p xs) (filter p xs))
      step true k = (h.0, k)
      step false k = k

pub each-like : {A : Type 0} (P Q : A → Type 0) → ((x : A) → P x → Q x) → (xs : List A)
    → Each P xs → Each Q xs
each-like P Q f [] h = tt
each-like P Q f (x ∷ xs) h = (f x h.0, each-like P Q f xs h.1)
