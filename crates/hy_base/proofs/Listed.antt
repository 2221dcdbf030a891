-- What each item of a list has, of lists made of others; lists of the values at numbers.
use Rattle.std.proofs.Common.{◌≡◌, ℕ, zero, suc, ◌+◌, ◌-◌, ◌<◌, ◌≤◌, List, [], ◌∷◌, ◌++◌, map, length, get_or, inl, inr, refl, sym, ap, ◌∙◌, subst, arith, length-append}
use Rattle.std.proofs.lemmas.Bool.{cases_lt}
use Rattle.std.proofs.lemmas.List.{get_or_append_left, get_or-append-add, length-map}
use Rattle.hy_base.specs.Rows.{listed}

pub append-each : {A : Type 0} (d : A) (xs ys : List A) (P : ℕ → A → Type 0) →
    ((j : ℕ) → j < length (xs ++ ys) → P j (get_or (xs ++ ys) j d)) →
    ((j : ℕ) → j < length xs → P j (get_or xs j d))
    × ((j : ℕ) → j < length ys → P (length xs + j) (get_or ys j d))
append-each d xs ys P all = (left, right)
  where
    left : (j : ℕ) → j < length xs → P j (get_or xs j d)
    left j lt =
        let l : length (xs ++ ys) ≡ length xs + length ys = length-append xs ys in
        let Q : _ → Type 0 = P j in
        subst Q (get_or_append_left xs ys d j lt) (all j (omega arith))

    right : (j : ℕ) → j < length ys → P (length xs + j) (get_or ys j d)
    right j lt =
        let l : length (xs ++ ys) ≡ length xs + length ys = length-append xs ys in
        let Q : _ → Type 0 = P (length xs + j) in
        subst Q (get_or-append-add xs ys j d) (all (length xs + j) (omega arith))

pub each-append : {A : Type 0} (d : A) (xs ys : List A) (P : ℕ → A → Type 0) →
    ((j : ℕ) → j < length xs → P j (get_or xs j d)) →
    ((j : ℕ) → j < length ys → P (length xs + j) (get_or ys j d)) → (j : ℕ) →
    j < length (xs ++ ys) → P j (get_or (xs ++ ys) j d)
each-append d xs ys P left right j lt =
    let l : length (xs ++ ys) ≡ length xs + length ys = length-append xs ys in
    let Q : _ → Type 0 = P j in
    elim (cases_lt j (length xs)) [
      | inl small ↦ subst Q (sym (get_or_append_left xs ys d j small)) (left j small)
      | inr le ↦
          let at : length xs + (j - length xs) ≡ j = omega arith in
          let R : ℕ → Type 0 = λ j. P j (get_or (xs ++ ys) j d) in
          let S : _ → Type 0 = P (length xs + (j - length xs)) in
          subst R at (subst S (sym (get_or-append-add xs ys (j - length xs) d))
          (right (j - length xs) (omega arith)))
    ]

pub at-map : {A B : Type 0} (f : A → B) (d : A) (e : B) (xs : List A) (j : ℕ) → j < length xs →
    get_or (map f xs) j e ≡ f (get_or xs j d)
at-map f d e [] j lt = absurd (omega arith)
at-map f d e (x ∷ xs) zero lt = refl
at-map f d e (x ∷ xs) (suc j) lt = at-map f d e xs j (omega arith)

pub map-each : {A B : Type 0} (f : A → B) (d : A) (e : B) (xs : List A) (P : ℕ → B → Type 0) →
    ((j : ℕ) → j < length (map f xs) → P j (get_or (map f xs) j e)) → (j : ℕ) → j < length xs →
    P j (f (get_or xs j d))
map-each f d e xs P all j lt =
    let l : length (map f xs) ≡ length xs = length-map xs f in
    let Q : _ → Type 0 = P j in
    subst Q (at-map f d e xs j lt) (all j (omega arith))

pub each-map : {A B : Type 0} (f : A → B) (d : A) (e : B) (xs : List A) (P : ℕ → B → Type 0) →
    ((j : ℕ) → j < length xs → P j (f (get_or xs j d))) → (j : ℕ) → j < length (map f xs) →
    P j (get_or (map f xs) j e)
each-map f d e xs P all j lt =
    let l : length (map f xs) ≡ length xs = length-map xs f in
    let small : j < length xs = omega arith in
    let Q : _ → Type 0 = P j in
    subst Q (sym (at-map f d e xs j small)) (all j small)

-- ---- lists of the values at numbers

pub length-listed : {B : Type 0} (c n : ℕ) (f : ℕ → B) → length (listed c n f) ≡ n
length-listed c zero f = refl
length-listed c (suc n) f = ap suc (length-listed (suc c) n f)

pub at-listed : {B : Type 0} (c n : ℕ) (f : ℕ → B) (d : B) (k : ℕ) → k < n →
    get_or (listed c n f) k d ≡ f (c + k)
at-listed c zero f d k lt = absurd (omega arith)
at-listed c (suc n) f d zero lt = let e : c ≡ c + 0 = omega arith in ap f e
at-listed c (suc n) f d (suc k) lt = let e : suc c + k ≡ c + suc k = omega arith in
    at-listed (suc c) n f d k (omega arith) ∙ ap f e

pub listed-each : {A : Type 0} (d : A) (n : ℕ) (f : ℕ → A) (P : ℕ → A → Type 0) →
    ((j : ℕ) → j < length (listed 0 n f) → P j (get_or (listed 0 n f) j d)) → (j : ℕ) → j < n →
    P j (f j)
listed-each d n f P all j lt =
    let m = length-listed 0 n f in
    let Q : _ → Type 0 = P j in
    let e : 0 + j ≡ j = omega arith in
    subst Q (at-listed 0 n f d j lt ∙ ap f e) (all j (omega (arith, m, lt)))

pub each-listed : {A : Type 0} (d : A) (n : ℕ) (f : ℕ → A) (P : ℕ → A → Type 0) →
    ((j : ℕ) → j < n → P j (f j)) → (j : ℕ) → j < length (listed 0 n f) →
    P j (get_or (listed 0 n f) j d)
each-listed d n f P all j lt =
    let m = length-listed 0 n f in
    let small : j < n = omega (arith, m, lt) in
    let Q : _ → Type 0 = P j in
    let e : 0 + j ≡ j = omega arith in
    subst Q (sym (at-listed 0 n f d j small ∙ ap f e)) (all j small)

-- before others
pub listed-append : {A : Type 0} (d : A) (n : ℕ) (f : ℕ → A) (ys : List A) (P : ℕ → A → Type 0) →
    ((j : ℕ) → j < length (listed 0 n f ++ ys) → P j (get_or (listed 0 n f ++ ys) j d)) →
    ((j : ℕ) → j < n → P j (f j)) × ((j : ℕ) → j < length ys → P (n + j) (get_or ys j d))
listed-append d n f ys P all =
    let m : length (listed 0 n f) ≡ n = length-listed 0 n f in
    let (left, right) = append-each d (listed 0 n f) ys P all in
    let Q : ℕ → Type 0 = λ n. (j : ℕ) → j < length ys → P (n + j) (get_or ys j d) in
    (listed-each d n f P left, subst Q m right)

pub append-listed : {A : Type 0} (d : A) (n : ℕ) (f : ℕ → A) (ys : List A) (P : ℕ → A → Type 0) →
    ((j : ℕ) → j < n → P j (f j)) → ((j : ℕ) → j < length ys → P (n + j) (get_or ys j d)) →
    (j : ℕ) → j < length (listed 0 n f ++ ys) → P j (get_or (listed 0 n f ++ ys) j d)
append-listed d n f ys P left right =
    let m : length (listed 0 n f) ≡ n = length-listed 0 n f in
    let Q : ℕ → Type 0 = λ n. (j : ℕ) → j < length ys → P (n + j) (get_or ys j d) in
    each-append d (listed 0 n f) ys P (each-listed d n f P left) (subst Q (sym m) right)

pub listed-last : {B : Type 0} (c n : ℕ) (f : ℕ → B) →
    listed c (suc n) f ≡ listed c n f ++ f (c + n) ∷ []
listed-last c zero f = let e : c ≡ c + 0 = omega arith in ap (λ x. f x ∷ []) e
listed-last c (suc n) f =
    let e : suc c + n ≡ c + suc n = omega arith in
    ap (λ l. f c ∷ l) (listed-last (suc c) n f ∙ ap (λ x. listed (suc c) n f ++ f x ∷ []) e)

pub last-listed : {B : Type 0} (n : ℕ) (f : ℕ → B) → listed 0 (n + 1) f ≡ listed 0 n f ++ f n ∷ []
last-listed n f =
    let up : n + 1 ≡ suc n = omega arith in
    let plain : 0 + n ≡ n = omega arith in
    ap (λ k. listed 0 k f) up ∙ listed-last 0 n f ∙ ap (λ k. listed 0 n f ++ f k ∷ []) plain

pub listed_next : {B : Type 0} (f : ℕ → B) (k : ℕ) (made more : List B) (x : B) →
    made ≡ listed 0 k f → more ≡ made ++ x ∷ [] → x ≡ f k → more ≡ listed 0 (k + 1) f
listed_next f k made more x e added is =
    added ∙ ap (λ l. l ++ x ∷ []) e ∙ ap (λ y. listed 0 k f ++ y ∷ []) is ∙ sym (last-listed k f)

pub listed-same : {B : Type 0} (c n : ℕ) (f g : ℕ → B) →
    ((i : ℕ) → c ≤ i → i < c + n → f i ≡ g i) → listed c n f ≡ listed c n g
listed-same c zero f g same = refl
listed-same c (suc n) f g same =
    ap (λ x. x ∷ listed (suc c) n f) (same c (omega arith) (omega arith))
    ∙ ap (λ l. g c ∷ l) (listed-same (suc c) n f g (λ i le lt. same i (omega arith) (omega arith)))
