-- What two lists that are one have in common.
use Rattle.std.proofs.Common.{◌≡◌, ◌≢◌, ◌<◌, List, [], ◌∷◌, ◌++◌, length, refl, ◌∙◌, ap, arith}

pub heads : {A : Type 0} {x y : A} {xs ys : List A} → x ∷ xs ≡ y ∷ ys → x ≡ y
heads e = cc

pub tails : {A : Type 0} {x y : A} {xs ys : List A} → x ∷ xs ≡ y ∷ ys → xs ≡ ys
tails e = cc

no-append : {A : Type 0} (xs ys : List A) → xs ++ ys ≡ [] → ys ≡ []
no-append [] ys e = e
no-append (x ∷ xs) ys e = absurd (cc)

-- Of two lists that are one, that with one element at its end goes on where the other one begins.
pub front_of : {A : Type 0} (xs ys zs : List A) (w : A) → ys ≢ [] → xs ++ ys ≡ zs ++ w ∷ []
    → (more : List A) × (zs ≡ xs ++ more)
front_of [] ys zs w some e = (zs, refl)
front_of (x ∷ xs) ys [] w some e =
    let none : xs ++ ys ≡ [] = cc in absurd (some (no-append xs ys none))
front_of (x ∷ xs) ys (z ∷ zs) w some e =
    let rest : xs ++ ys ≡ zs ++ w ∷ [] = cc in
    let first : z ≡ x = cc in
    let (more, parts) = front_of xs ys zs w some rest in
    (more, ap (λ l. z ∷ l) parts ∙ ap (λ a. a ∷ (xs ++ more)) first)

-- The longer front goes on behind the shorter one and the element after it.
pub longer : {A : Type 0} (xs ys zs ws : List A) (x : A) → xs ++ x ∷ ys ≡ zs ++ ws
    → length xs < length zs → (more : List A) × (zs ≡ (xs ++ x ∷ []) ++ more)
longer xs ys [] ws x e lt = absurd (omega arith)
longer [] ys (z ∷ zs) ws x e lt =
    let first : z ≡ x = cc in (zs, ap (λ a. a ∷ zs) first)
longer (v ∷ xs) ys (z ∷ zs) ws x e lt =
    let rest : xs ++ x ∷ ys ≡ zs ++ ws = cc in
    let first : z ≡ v = cc in
    let (more, parts) = longer xs ys zs ws x rest (omega arith) in
    (more, ap (λ l. z ∷ l) parts ∙ ap (λ a. a ∷ ((xs ++ x ∷ []) ++ more)) first)

-- Two lists that are one have the same parts, where the first ones are of one length.
pub parts_same : {A : Type 0} (xs ys zs ws : List A) → xs ++ ys ≡ zs ++ ws → length xs ≡ length zs
    → (xs ≡ zs) × (ys ≡ ws)
parts_same [] ys [] ws e long = (refl, e)
parts_same [] ys (z ∷ zs) ws e long = absurd (omega arith)
parts_same (x ∷ xs) ys [] ws e long = absurd (omega arith)
parts_same (x ∷ xs) ys (z ∷ zs) ws e long =
    let rest : xs ++ ys ≡ zs ++ ws = cc in
    let head : x ≡ z = cc in
    let (front, behind) = parts_same xs ys zs ws rest (omega arith) in
    (ap (λ l. x ∷ l) front ∙ ap (λ a. a ∷ zs) head, behind)
