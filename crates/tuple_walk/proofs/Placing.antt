-- Four places of which the first ones are looked at.
use Rattle.std.proofs.Common.{◌≡◌, ℕ, zero, suc, ◌+◌, ◌<◌, List, [], ◌∷◌, length, map, take, drop, set, slice_get, get_or, Option, Some, None, IfNone, refl, sym, ap, ◌∙◌, subst, arith}
use Rattle.std.proofs.lemmas.List.{map-set, set-set}
use Rattle.hy_formula.specs.Quantifiers.{Each}
use Rattle.trace_trie.specs.Numbered.{Numbered}
use Rattle.tuple_walk.specs.declared.place.Place.{Place}
use Rattle.tuple_walk.specs.Four.{letters_in}
use Rattle.tuple_walk.specs.Places.{whole_behind, whole_of, letters_at, open_at, IsOpen, AreSome}
use Rattle.tuple_walk.proofs.Stepping.{left_at}

pub take-set : {A : Type 0} (n : ℕ) (xs : List A) (i : ℕ) (x : A)
    → take n (set xs i x) ≡ set (take n xs) i x
take-set zero xs i x = refl
take-set (suc n) [] i x = refl
take-set (suc n) (y ∷ ys) zero x = refl
take-set (suc n) (y ∷ ys) (suc i) x = ap (λ zs. y ∷ zs) (take-set n ys i x)

-- the places with one of them changed
pub lists-set : (f : Place → List Numbered) (n : ℕ) (ps : List Place) (i : ℕ) (p : Place)
    (next : List Place) → next ≡ set ps i p
    → map f (take n next) ≡ set (map f (take n ps)) i (f p)
lists-set f n ps i p next e =
    ap (λ qs. map f (take n qs)) e
    ∙ ap (map f) (take-set n ps i p)
    ∙ map-set f (take n ps) i p

pub moved-more : {A : Type 0} (P : A → Type 0) (i : ℕ) (xs : List A) (x : A) (next : List A)
    → i < length xs → next ≡ set xs i x → Each P (take i xs) → P x → Each P (take (i + 1) next)
moved-more {A} P i xs x next lt e h p =
    let Q : ℕ → Type 0 = λ k. Each P (take k next) in
    let R : List A → Type 0 = λ ys. Each P (take (suc i) ys) in
    let is : suc i ≡ i + 1 = omega arith in
    subst Q is (subst R (sym e) (more i xs lt h))
  where
    more : (i : ℕ) (xs : List A) → i < length xs → Each P (take i xs)
        → Each P (take (suc i) (set xs i x))
    more zero [] lt h = absurd (omega arith)
    more (suc i) [] lt h = absurd (omega arith)
    more zero (y ∷ ys) lt h = (p, tt)
    more (suc i) (y ∷ ys) lt h = (h.0, more i ys (omega arith) h.1)

pub open-less : {A : Type 0} (P : A → Type 0) (i n : ℕ) (xs : List A) (x : A) (next : List A)
    → next ≡ set xs i x → Each P (drop i (take n xs)) → Each P (drop (i + 1) (take n next))
open-less {A} P i n xs x next e h =
    let Q : ℕ → Type 0 = λ k. Each P (drop k (take n next)) in
    let R : List A → Type 0 = λ ys. Each P (drop (suc i) ys) in
    let is : suc i ≡ i + 1 = omega arith in
    subst Q is (subst R (sym (ap (take n) e ∙ take-set n xs i x)) (less i (take n xs) h))
  where
    less : (i : ℕ) (ys : List A) → Each P (drop i ys) → Each P (drop (suc i) (set ys i x))
    less i [] h = none i
      where
        none : (i : ℕ) → Each P (drop (suc i) [])
        none i = tt
    less zero (y ∷ ys) h = h.1
    less (suc i) (y ∷ ys) h = less i ys h

-- at the first places, of which one is put anew
pub open-set : {A : Type 0} (P : A → Type 0) (n : ℕ) (xs : List A) (i : ℕ) (x : A) (next : List A)
    → next ≡ set xs i x → Each P (take n xs) → P x → Each P (take n next)
open-set {A} P n xs i x next e h p =
    let Q : List A → Type 0 = λ ys. Each P ys in
    subst Q (sym (ap (take n) e ∙ take-set n xs i x)) (all (take n xs) i h)
  where
    all : (ys : List A) (i : ℕ) → Each P ys → Each P (set ys i x)
    all [] i h = tt
    all (y ∷ ys) zero h = (p, h.1)
    all (y ∷ ys) (suc i) h = (h.0, all ys i h.1)

-- a place put back
pub set-back : {A : Type 0} (xs : List A) (i : ℕ) (x : A) → slice_get xs i ≡ Some x
    → set xs i x ≡ xs
set-back [] i x e = refl
set-back (y ∷ ys) zero x e = let is : y ≡ x = cc in ap (λ z. z ∷ ys) (sym is)
set-back (y ∷ ys) (suc i) x e = ap (λ zs. y ∷ zs) (set-back ys i x e)

-- as before, where nothing is found, all but one place is kept, and that one is put back
pub put-back : {A R : Type 0} (found back before : List A) (i : ℕ) (here : A)
    → slice_get before i ≡ Some here → back ≡ set found i here
    → (r : Option R) → IfNone r ((x : A) → set found i x ≡ set before i x) → IfNone r (back ≡ before)
put-back found back before i here at e (Some y) kept = tt
put-back found back before i here at e None kept = e ∙ kept here ∙ set-back before i here at

-- all but one place is kept, where nothing is found from places of which that one is put anew
pub put-kept : {A R : Type 0} (found put before : List A) (i : ℕ) (x : A) → put ≡ set before i x
    → (r : Option R) → IfNone r (found ≡ put) → IfNone r ((y : A) → set found i y ≡ set before i y)
put-kept found put before i x is (Some r) same = tt
put-kept {A} found put before i x is None same =
    λ y. ap (λ (l : List A). set l i y) (same ∙ is) ∙ set-set before i x y

pub none-same : {A R : Type 0} (r : Option R) (x : A) → IfNone r (x ≡ x)
none-same (Some y) x = tt
none-same None x = refl

pub take-before : {A : Type 0} (i : ℕ) (xs : List A) (x : A) → take i (set xs i x) ≡ take i xs
take-before zero xs x = refl
take-before (suc i) [] x = refl
take-before (suc i) (y ∷ ys) x = ap (λ zs. y ∷ zs) (take-before i ys x)

pub some-set : (ls : List (List Numbered)) (i : ℕ) (w : List Numbered) → AreSome ls → 0 < length w
    → AreSome (set ls i w)
some-set [] i w h some = tt
some-set (l ∷ ls) zero w h some = (some, h.1)
some-set (l ∷ ls) (suc i) w h some = (h.0, some-set ls i w h.1 some)

-- a place that is open, among the first n
pub at-place : (n i : ℕ) (ps : List Place) (p : Place) → i < n → slice_get ps i ≡ Some p
    → Each IsOpen (drop i (take n ps)) → get_or (map whole_of (take n ps)) i [] ≡ left_at p
at-place zero i ps p lt e h = absurd (omega arith)
at-place (suc n) zero [] p lt e h = absurd (cc)
at-place (suc n) (suc i) [] p lt e h = absurd (cc)
at-place (suc n) zero (q ∷ ps) p lt e h =
    let is : q ≡ p = cc in
    ap (λ t. whole_behind t (left_at q)) h.0 ∙ ap left_at is
at-place (suc n) (suc i) (q ∷ ps) p lt e h = at-place n i ps p (omega arith) e h

pub at-letters : (i : ℕ) (ps : List Place) (p : Place) → slice_get ps i ≡ Some p
    → letters_in i ps ≡ letters_at p.spot
at-letters zero [] p e = absurd (cc)
at-letters (suc i) [] p e = absurd (cc)
at-letters zero (q ∷ ps) p e = let is : q ≡ p = cc in ap (λ (r : Place). letters_at r.spot) is
at-letters (suc i) (q ∷ ps) p e = at-letters i ps p e

pub at-left : (n i : ℕ) (ps : List Place) (p : Place) → i < n → slice_get ps i ≡ Some p
    → get_or (map left_at (take n ps)) i [] ≡ left_at p
at-left zero i ps p lt e = absurd (omega arith)
at-left (suc n) zero [] p lt e = absurd (cc)
at-left (suc n) (suc i) [] p lt e = absurd (cc)
at-left (suc n) zero (q ∷ ps) p lt e = let is : q ≡ p = cc in ap left_at is
at-left (suc n) (suc i) (q ∷ ps) p lt e = at-left n i ps p (omega arith) e

-- what may still come is all, where nothing is taken
pub open-wholes : (ps : List Place) → Each IsOpen ps → map whole_of ps ≡ map left_at ps
open-wholes [] h = refl
open-wholes (p ∷ ps) h =
    λ i. whole_behind (h.0 i) (left_at p) ∷ open-wholes ps h.1 i

pub opened-left : (n : ℕ) (ps next : List Place) → next ≡ map open_at ps
    → map left_at (take n next) ≡ map left_at (take n ps)
opened-left n ps next e = ap (λ qs. map left_at (take n qs)) e ∙ same n ps
  where
    same : (n : ℕ) (ps : List Place)
        → map left_at (take n (map open_at ps)) ≡ map left_at (take n ps)
    same zero ps = refl
    same (suc n) [] = refl
    same (suc n) (p ∷ ps) = ap (λ ls. left_at p ∷ ls) (same n ps)

pub opened-open : (n : ℕ) (ps next : List Place) → next ≡ map open_at ps
    → Each IsOpen (take n next)
opened-open n ps next e =
    let P : List Place → Type 0 = λ qs. Each IsOpen (take n qs) in subst P (sym e) (all n ps)
  where
    all : (n : ℕ) (ps : List Place) → Each IsOpen (take n (map open_at ps))
    all zero ps = tt
    all (suc n) [] = tt
    all (suc n) (p ∷ ps) = (refl, all n ps)
