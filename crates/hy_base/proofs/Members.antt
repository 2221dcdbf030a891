-- Members of lists: where they stand, in fronts and maps, and those that pass a test.
use Rattle.std.proofs.Common.{◌≡◌, ℕ, zero, suc, ◌⊎◌, Bool, true, false, cond, ◌||◌, List, [], ◌∷◌, map, take, inl, inr, refl, sym, ap, ◌∙◌, subst, arith}
use Rattle.std.specs.List.{Contains, filter, list_all, list_any}
use Rattle.std.proofs.lemmas.Bool.{and_parts, and_from, or_cases, or_left, or_right}
use Rattle.std.proofs.lemmas.List.Elements.{Contains-append_right, Contains-append_cases}

module _ {A : Type 0} where
  pub contains-here : (x : A) (xs : List A) → Contains (x ∷ xs) x
  contains-here x xs = (0, omega arith, refl)

  pub contains-later : (x y : A) (xs : List A) → Contains xs y → Contains (x ∷ xs) y
  contains-later x y xs h = Contains-append_right (x ∷ []) xs y h

  pub contains-cases : (x y : A) (xs : List A) → Contains (x ∷ xs) y → (x ≡ y) ⊎ Contains xs y
  contains-cases x y xs h =
      elim (Contains-append_cases (x ∷ []) xs y h) [
        | inl (zero, lt, e) ↦ inl e
        | inl (suc k, lt, e) ↦ absurd (omega arith)
        | inr later ↦ inr later
      ]

  pub contains-none : (y : A) → ¬ Contains [] y
  contains-none y (k, lt, e) = omega arith

  pub contains-one : (x y : A) → Contains (x ∷ []) y → x ≡ y
  contains-one x y c =
      elim (contains-cases x y [] c) [ inl e ↦ e | inr none ↦ absurd (contains-none y none) ]

  -- a member of the front is one of the whole
  pub from-take : (xs : List A) (k : ℕ) (x : A) → Contains (take k xs) x → Contains xs x
  from-take xs zero x c = absurd (contains-none x c)
  from-take [] (suc k) x c = c
  from-take (y ∷ ys) (suc k) x c =
      elim (contains-cases y x (take k ys) c) [
        | inl e ↦ let P : A → Type 0 = Contains (y ∷ ys) in subst P e (contains-here y ys)
        | inr later ↦ contains-later y x ys (from-take ys k x later)
      ]

-- ---- members of a map

module _ {A B : Type 0} (f : A → B) where
  pub map-of : (xs : List A) (x : A) → Contains xs x → Contains (map f xs) (f x)
  map-of [] x c = absurd (contains-none x c)
  map-of (y ∷ ys) x c =
      elim (contains-cases y x ys c) [
        | inl e ↦
            let P : A → Type 0 = λ q. Contains (f y ∷ map f ys) (f q) in
            subst P e (contains-here (f y) (map f ys))
        | inr later ↦ contains-later (f y) (f x) (map f ys) (map-of ys x later)
      ]

  pub map-from : (xs : List A) (y : B) → Contains (map f xs) y → (x : A) × Contains xs x × (f x ≡ y)
  map-from [] y c = absurd (contains-none y c)
  map-from (x ∷ xs) y c =
      elim (contains-cases (f x) y (map f xs) c) [
        | inl e ↦ (x, contains-here x xs, e)
        | inr later ↦ let (z, d, e) = map-from xs y later in (z, contains-later x z xs d, e)
      ]

-- ---- members that pass a test

module _ {A : Type 0} (p : A → Bool) where
  pub filter-from : (xs : List A) (x : A) → Contains (filter p xs) x → Contains xs x × (p x ≡ true)
  filter-from [] x c = absurd (contains-none x c)
  filter-from (y ∷ ys) x c = step (filter-from ys x) (p y) refl c
    where
      step : (Contains (filter p ys) x → Contains ys x × (p x ≡ true)) → (b : Bool) → p y ≡ b
          → Contains (cond b (y ∷ filter p ys) (filter p ys)) x → Contains (y ∷ ys) x × (p x ≡ true)
      step more true e c =
          elim (contains-cases y x (filter p ys) c) [
            | inl same ↦
                let P : A → Type 0 = λ z. Contains (y ∷ ys) z × (p z ≡ true) in
                subst P same (contains-here y ys, e)
            | inr later ↦ let (d, h) = more later in (contains-later y x ys d, h)
          ]
      step more false e c = let (d, h) = more c in (contains-later y x ys d, h)

  pub filter-of : (xs : List A) (x : A) → Contains xs x → p x ≡ true → Contains (filter p xs) x
  filter-of [] x c h = absurd (contains-none x c)
  filter-of (y ∷ ys) x c h =
      step (p y) refl (contains-cases y x ys c) (λ later. filter-of ys x later h)
    where
      step : (b : Bool) → p y ≡ b → (y ≡ x) ⊎ Contains ys x
          → (Contains ys x → Contains (filter p ys) x)
          → Contains (cond b (y ∷ filter p ys) (filter p ys)) x
      step true e (inl same) more =
          let P : A → Type 0 = Contains (y ∷ filter p ys) in
          subst P same (contains-here y (filter p ys))
      step true e (inr later) more = contains-later y x (filter p ys) (more later)
      step false e (inl same) more = let wrong : p y ≡ true = ap p same ∙ h in absurd (cc)
      step false e (inr later) more = more later

  pub all-from : (xs : List A) → list_all p xs ≡ true → (x : A) → Contains xs x → p x ≡ true
  all-from [] e x c = absurd (contains-none x c)
  all-from (y ∷ ys) e x c =
      let (here, more) = and_parts (p y) (list_all p ys) e in
      let P : A → Type 0 = λ z. p z ≡ true in
      elim (contains-cases y x ys c) [
        | inl same ↦ subst P same here
        | inr later ↦ all-from ys more x later
      ]

  pub all-of : (xs : List A) → ((x : A) → Contains xs x → p x ≡ true) → list_all p xs ≡ true
  all-of [] f = refl
  all-of (x ∷ xs) f =
      and_from (p x) (list_all p xs) (f x (contains-here x xs))
      (all-of xs (λ y c. f y (contains-later x y xs c)))

  pub any-from : (xs : List A) → list_any p xs ≡ true → (x : A) × Contains xs x × (p x ≡ true)
  any-from [] e = absurd (cc)
  any-from (x ∷ xs) e =
      elim (or_cases (p x) (list_any p xs) e) [
        | inl here ↦ (x, contains-here x xs, here)
        | inr more ↦ let (y, c, h) = any-from xs more in (y, contains-later x y xs c, h)
      ]

  pub any-of : (xs : List A) (x : A) → Contains xs x → p x ≡ true → list_any p xs ≡ true
  any-of [] x c h = absurd (contains-none x c)
  any-of (y ∷ ys) x c h =
      elim (contains-cases y x ys c) [
        | inl e ↦ or_left (p y) (list_any p ys) (ap p e ∙ h)
        | inr later ↦ or_right (p y) (list_any p ys) (any-of ys x later h)
      ]
