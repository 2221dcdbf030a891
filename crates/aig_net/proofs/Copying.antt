-- Lists of copies by their places: what each item has, the copies have.
use Rattle.std.proofs.Common.{◌≡◌, ℕ, zero, suc, ◌+◌, ◌*◌, ◌/◌, ◌%◌, ◌<◌, ◌≤◌, List, [], ◌∷◌, ◌++◌, length, get_or, take, inl, inr, sym, ap, ◌∙◌, subst, arith, append_assoc, append-nil, length-append}
use Rattle.std.proofs.Math.Nat.{mod-lt, mod-add-div', mul-le-mul_left}
use Rattle.std.proofs.lemmas.Bool.{cases_lt}
use Rattle.std.proofs.lemmas.List.{get_or_append_left, get_or-append-add, take_more}
use Rattle.aig_net.specs.Copies.{copied}
use Rattle.hy_base.specs.Rows.{listed}
use Rattle.hy_base.proofs.Listed.{length-listed, at-listed, last-listed}

module _ {A B : Type 0} (n : ℕ) (f : ℕ → A → B) where
  pub length-copied : (xs : List A) → length (copied n f xs) ≡ length xs * n
  length-copied [] = omega arith
  length-copied (x ∷ xs) =
      let rest : length (copied n f xs) ≡ length xs * n = length-copied xs in
      let first : length (listed 0 n (λ c. f c x)) ≡ n = length-listed 0 n (λ c. f c x) in
      length-append (listed 0 n (λ c. f c x)) (copied n f xs) ∙ omega arith

  pub at-copied : (xs : List A) (d : B) (e : A) (j c : ℕ) → j < length xs → c < n →
      get_or (copied n f xs) (j * n + c) d ≡ f c (get_or xs j e)
  at-copied [] d e j c lt few = absurd (omega arith)
  at-copied (x ∷ xs) d e zero c lt few =
      let first : length (listed 0 n (λ c. f c x)) ≡ n = length-listed 0 n (λ c. f c x) in
      let here : 0 * n + c ≡ c = omega arith in
      let plain : 0 + c ≡ c = omega arith in
      ap (λ k. get_or (copied n f (x ∷ xs)) k d) here
      ∙ get_or_append_left (listed 0 n (λ c. f c x)) (copied n f xs) d c (omega arith)
      ∙ at-listed 0 n (λ c. f c x) d c few ∙ ap (λ k. f k x) plain
  at-copied (x ∷ xs) d e (suc j) c lt few =
      let first : length (listed 0 n (λ c. f c x)) ≡ n = length-listed 0 n (λ c. f c x) in
      let there : suc j * n + c ≡ length (listed 0 n (λ c. f c x)) + (j * n + c) =
      omega arith in
      ap (λ k. get_or (copied n f (x ∷ xs)) k d) there
      ∙ get_or-append-add (listed 0 n (λ c. f c x)) (copied n f xs) (j * n + c) d
      ∙ at-copied xs d e j c (omega arith) few

-- a place below m * n is one of a copy
row-below : (u n m : ℕ) → u < m * n → u / n < m
row-below u n m lt =
    elim (cases_lt (u / n) m) [
      | inl small ↦ small
      | inr large ↦
          let whole : u % n + u / n * n ≡ u = mod-add-div' u n in
          let more : n * m ≤ n * (u / n) = mul-le-mul_left n large in
          omega (arith, whole, more)
    ]

some-copies : (u n m : ℕ) → u < m * n → 0 < n
some-copies u zero m lt = absurd (omega arith)
some-copies u (suc n) m lt = omega arith

-- What each item has, the items of the copies have.
pub each-copied : {A B : Type 0} (n : ℕ) (f : ℕ → A → B) (xs : List A) (d : B) (e : A) (P : ℕ → B →
    Type 0) → ((c j : ℕ) → c < n → j < length xs → P (j * n + c) (f c (get_or xs j e))) → (u : ℕ) →
    u < length (copied n f xs) → P u (get_or (copied n f xs) u d)
each-copied n f xs d e P all u lt =
    let many : length (copied n f xs) ≡ length xs * n = length-copied n f xs in
    let small : u < length xs * n = omega arith in
    let j : ℕ = u / n in
    let c : ℕ = u % n in
    let row : j < length xs = row-below u n (length xs) small in
    let few : c < n = mod-lt u (some-copies u n (length xs) small) in
    let at : j * n + c ≡ u = let whole : u % n + u / n * n ≡ u = mod-add-div' u n in omega arith in
    let here : P (j * n + c) (get_or (copied n f xs) (j * n + c) d) = let Q : _ → Type 0 =
    P (j * n + c) in subst Q (sym (at-copied n f xs d e j c row few)) (all c j few row) in
    let R : ℕ → Type 0 = λ u. P u (get_or (copied n f xs) u d) in
    subst R at here

pub copied-each : {A B : Type 0} (n : ℕ) (f : ℕ → A → B) (xs : List A) (d : B) (e : A) (P : ℕ → B →
    Type 0) → ((u : ℕ) → u < length (copied n f xs) → P u (get_or (copied n f xs) u d)) →
    (c j : ℕ) → c < n → j < length xs → P (j * n + c) (f c (get_or xs j e))
copied-each n f xs d e P all c j few row =
    let many : length (copied n f xs) ≡ length xs * n = length-copied n f xs in
    let below : (suc j) * n ≤ length xs * n = let l : n * suc j ≤ n * length xs =
    mul-le-mul_left n (omega arith) in omega (arith, l) in
    let small : j * n + c < length (copied n f xs) = omega (arith, below, few, many) in
    let Q : _ → Type 0 = P (j * n + c) in
    subst Q (at-copied n f xs d e j c row few) (all (j * n + c) small)

-- ---- one more copy, and the copies of one more item

copied-last : {A B : Type 0} (n : ℕ) (f : ℕ → A → B) (xs : List A) (x : A) →
    copied n f (xs ++ x ∷ []) ≡ copied n f xs ++ listed 0 n (λ c. f c x)
copied-last n f [] x = append-nil (listed 0 n (λ c. f c x))
copied-last n f (y ∷ xs) x =
    let first = listed 0 n (λ c. f c y) in
    ap (λ l. first ++ l) (copied-last n f xs x)
    ∙ sym (append_assoc first (copied n f xs) (listed 0 n (λ c. f c x)))

pub one_copy : {B : Type 0} (f : ℕ → B) (start items more : List B) (c : ℕ) (y : B) →
    items ≡ start ++ listed 0 c f → y ≡ f c → more ≡ items ++ y ∷ [] →
    more ≡ start ++ listed 0 (c + 1) f
one_copy f start items more c y e h m =
    m ∙ ap (λ l. l ++ y ∷ []) e ∙ append_assoc start (listed 0 c f) (y ∷ [])
    ∙ ap (λ x. start ++ (listed 0 c f ++ x ∷ [])) h ∙ ap (λ l. start ++ l) (sym (last-listed c f))

pub one_item : {A B : Type 0} (n : ℕ) (f : ℕ → A →
    B) (xs : List A) (y : A) (start items : List B) (i c : ℕ) → i < length xs → y ≡ get_or xs i y →
    start ≡ copied n f (take i xs) → items ≡ start ++ listed 0 c (λ k. f k y) → n ≤ c →
    c ≤ n → items ≡ copied n f (take (i + 1) xs)
one_item n f xs y start items i c lt at s e above below =
    let same : c ≡ n = omega arith in
    let front : take (i + 1) xs ≡ take i xs ++ y ∷ [] =
    take_more xs i y lt ∙ ap (λ x. take i xs ++ x ∷ []) (sym at) in
    e ∙ ap (λ l. l ++ listed 0 c (λ k. f k y)) s
    ∙ ap (λ m. copied n f (take i xs) ++ listed 0 m (λ k. f k y)) same
    ∙ sym (copied-last n f (take i xs) y) ∙ ap (copied n f) (sym front)
