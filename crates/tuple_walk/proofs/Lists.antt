-- Members of lists, and lists of different members.
use Rattle.std.proofs.Common.{◌≡◌, ◌≢◌, ◌⊎◌, ℕ, zero, suc, ◌<◌, ◌≤◌, List, [], ◌∷◌, ◌++◌, length, map, take, set, slice_get, Some, inl, inr, refl, sym, ap, ◌∙◌, subst, arith}
use Rattle.std.specs.List.{Contains}
use Rattle.std.proofs.lemmas.List.Elements.{Contains-append_cases}
use Rattle.hy_base.proofs.Members.{contains-here, contains-later, contains-cases, contains-none, map-from}
use Rattle.hy_formula.specs.Quantifiers.{Each}
use Rattle.hy_formula.proofs.Each.{each-at}
use Rattle.tuple_walk.specs.Searches.{AreApart}

pub take-more : {A : Type 0} (xs : List A) (i : ℕ) (x : A) → slice_get xs i ≡ Some x
    → take (suc i) xs ≡ take i xs ++ x ∷ []
take-more [] i x e = absurd (cc)
take-more (y ∷ ys) zero x e = let same : y ≡ x = cc in ap (λ z. z ∷ []) same
take-more (y ∷ ys) (suc i) x e = ap (λ zs. y ∷ zs) (take-more ys i x e)

pub get-contains : {A : Type 0} (xs : List A) (i : ℕ) (x : A) → slice_get xs i ≡ Some x
    → Contains xs x
get-contains [] i x e = absurd (cc)
get-contains (y ∷ ys) zero x e =
    let same : y ≡ x = cc in
    let P = Contains (y ∷ ys) in
    subst P same (contains-here y ys)
get-contains (y ∷ ys) (suc i) x e = contains-later y x ys (get-contains ys i x e)

pub each-get : {A : Type 0} (P : A → Type 0) (n i : ℕ) (xs : List A) (x : A) → i < n
    → slice_get xs i ≡ Some x → Each P (take n xs) → P x
each-get P zero i xs x lt e h = absurd (omega arith)
each-get P (suc n) i [] x lt e h = absurd (cc)
each-get P (suc n) zero (y ∷ ys) x lt e h = let same : y ≡ x = cc in subst P same h.0
each-get P (suc n) (suc i) (y ∷ ys) x lt e h = each-get P n i ys x (omega arith) e h.1

pub each-more : {A : Type 0} (P : A → Type 0) (n i : ℕ) (xs : List A) (x : A) → i < n
    → slice_get xs i ≡ Some x → P x → Each P (take i (take n xs))
    → Each P (take (suc i) (take n xs))
each-more P zero i xs x lt e p h = absurd (omega arith)
each-more P (suc n) i [] x lt e p h = absurd (cc)
each-more P (suc n) zero (y ∷ ys) x lt e p h =
    let same : y ≡ x = cc in (subst P (sym same) p, tt)
each-more P (suc n) (suc i) (y ∷ ys) x lt e p h =
    (h.0, each-more P n i ys x (omega arith) e p h.1)

pub each-of : {A : Type 0} (P : A → Type 0) (xs : List A) (i : ℕ) (x : A) → Each P xs
    → slice_get xs i ≡ Some x → P x
each-of P xs i x h e = each-at P xs x h (get-contains xs i x e)

pub get-of : {A B : Type 0} (f : A → B) (xs : List A) (i : ℕ) (x : A) → slice_get xs i ≡ Some x
    → slice_get (map f xs) i ≡ Some (f x)
get-of f [] i x e = absurd (cc)
get-of f (y ∷ ys) zero x e = let is : y ≡ x = cc in ap (λ z. Some (f z)) is
get-of f (y ∷ ys) (suc i) x e = get-of f ys i x e

pub get-unmap : {A B : Type 0} (f : A → B) (xs : List A) (i : ℕ) (y : B)
    → slice_get (map f xs) i ≡ Some y → (x : A) × (slice_get xs i ≡ Some x) × (f x ≡ y)
get-unmap f [] i y e = absurd (cc)
get-unmap f (x ∷ xs) zero y e = let is : f x ≡ y = cc in (x, refl, is)
get-unmap f (x ∷ xs) (suc i) y e = get-unmap f xs i y e

-- two lists that are mapped to the same
pub get-same : {A B C : Type 0} (f : A → C) (g : B → C) (xs : List A) (ys : List B) (i : ℕ) (x : A)
    → map f xs ≡ map g ys → slice_get xs i ≡ Some x
    → (y : B) × (slice_get ys i ≡ Some y) × (g y ≡ f x)
get-same f g xs ys i x e at =
    get-unmap g ys i (f x) (sym (ap (λ l. slice_get l i) e) ∙ get-of f xs i x at)

pub some-in : {A : Type 0} (xs : List A) (x : A) → Contains xs x → 0 < length xs
some-in [] x c = absurd (contains-none x c)
some-in (y ∷ ys) x c = omega arith

pub some-same : {A : Type 0} {x y : A} → Some x ≡ Some y → x ≡ y
some-same e = cc

-- ---- one put anew

pub set-cases : {A : Type 0} (xs : List A) (i j : ℕ) (x y : A) → slice_get (set xs i x) j ≡ Some y
    → ((j ≡ i) × (x ≡ y)) ⊎ (slice_get xs j ≡ Some y)
set-cases [] i j x y e = inr e
set-cases (z ∷ xs) zero zero x y e = inl (refl, some-same e)
set-cases (z ∷ xs) zero (suc j) x y e = inr e
set-cases (z ∷ xs) (suc i) zero x y e = inr e
set-cases (z ∷ xs) (suc i) (suc j) x y e = elim (set-cases xs i j x y e) [
  | inl (f, g) ↦ inl (ap suc f, g)
  | inr other ↦ inr other
]

pub set-other : {A : Type 0} (xs : List A) (i j : ℕ) (x y : A) → j ≢ i → slice_get xs j ≡ Some y
    → slice_get (set xs i x) j ≡ Some y
set-other [] i j x y other e = e
set-other (z ∷ xs) zero zero x y other e = absurd (other refl)
set-other (z ∷ xs) zero (suc j) x y other e = e
set-other (z ∷ xs) (suc i) zero x y other e = e
set-other (z ∷ xs) (suc i) (suc j) x y other e =
    set-other xs i j x y (λ f. other (ap suc f)) e

pub set-here : {A : Type 0} (xs : List A) (i : ℕ) (x : A) → i < length xs
    → slice_get (set xs i x) i ≡ Some x
set-here [] i x lt = absurd (omega arith)
set-here (z ∷ xs) zero x lt = refl
set-here (z ∷ xs) (suc i) x lt = set-here xs i x (omega arith)

-- ---- different members

pub apart-append : {A : Type 0} (xs ys : List A) → AreApart xs → AreApart ys
    → ((x : A) → Contains xs x → ¬ Contains ys x) → AreApart (xs ++ ys)
apart-append [] ys o p apart = p
apart-append {A} (x ∷ xs) ys o p apart = (
  λ c. elim (Contains-append_cases xs ys x c) [
    | inl h ↦ o.0 h
    | inr h ↦ apart x (contains-here x xs) h
  ],
  apart-append xs ys o.1 p (λ y c. apart y (contains-later x y xs c)),
)

pub apart-map : {A B : Type 0} (f : A → B) → ((x y : A) → f x ≡ f y → x ≡ y) → (xs : List A)
    → AreApart xs → AreApart (map f xs)
apart-map f one [] o = tt
apart-map {A} f one (x ∷ xs) o = (
  λ c.
      let (y, d, e) = map-from f xs (f x) c in
      let P : A → Type 0 = Contains xs in
      o.0 (subst P (one y x e) d),
  apart-map f one xs o.1,
)

-- the list without one member
record IsWithout {A : Type 0} (ys : List A) (x : A) : Type 0 where
  less : List A
  long : suc (length less) ≡ length ys
  others : (y : A) → Contains ys y → (¬ (x ≡ y)) → Contains less y

one-less : {A : Type 0} (ys : List A) (x : A) → Contains ys x → IsWithout ys x
one-less [] x c = absurd (contains-none x c)
one-less {A} (y ∷ ys) x c =
    elim (contains-cases y x ys c) [
      | inl e ↦ record {
        less = ys;
        long = refl;
        others = λ z d n. elim (contains-cases y z ys d) [
          | inl same ↦ absurd (n (sym e ∙ same))
          | inr later ↦ later
        ];
      }
      | inr later ↦
          let w = one-less ys x later in
          record {
            less = y ∷ w.less;
            long = ap suc w.long;
            others = λ z d n. elim (contains-cases y z ys d) [
              | inl same ↦
                  let P : A → Type 0 = Contains (y ∷ w.less) in
                  subst P same (contains-here y w.less)
              | inr behind ↦ contains-later y z w.less (w.others z behind n)
            ];
          }
    ]

-- different members of a list are at most as many as it has
pub apart-most : {A : Type 0} (xs ys : List A) → AreApart xs
    → ((x : A) → Contains xs x → Contains ys x) → length xs ≤ length ys
apart-most [] ys o among = omega arith
apart-most {A} (x ∷ xs) ys o among =
    let w = one-less ys x (among x (contains-here x xs)) in
    let more : length xs ≤ length w.less =
    apart-most xs w.less o.1
    (λ y c. w.others y (among y (contains-later x y xs c))
    (λ e. let P : A → Type 0 = Contains xs in o.0 (subst P (sym e) c))) in
    omega (arith, w.long, more)
