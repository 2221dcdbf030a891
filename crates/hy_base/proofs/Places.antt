-- Places in lists, in ranges and in rows; of more places than there are values two have the same.
use Rattle.std.proofs.Common.{◌≡◌, ◌≢◌, ℕ, zero, suc, ◌+◌, ◌-◌, ◌*◌, ◌<◌, ◌≤◌, ◌⊎◌, min, Some, List, [], ◌∷◌, ◌++◌, length, map, take, drop, get_or, slice_get, inl, inr, refl, sym, ap, ◌∙◌, subst, arith}
use Rattle.std.specs.List.{range_with_len}
use Rattle.std.proofs.Math.Nat.{mul-le-mul_left}
use Rattle.std.proofs.lemmas.Bool.{cases_eq}

module _ {A : Type 0} where
  pub last-of : (xs : List A) (x d : A) → get_or (xs ++ x ∷ []) (length xs) d ≡ x
  last-of [] x d = refl
  last-of (y ∷ ys) x d = last-of ys x d

  pub drop-at : (xs : List A) (i : ℕ) (x : A) → slice_get xs i ≡ Some x
      → drop i xs ≡ x ∷ drop (i + 1) xs
  drop-at xs i x e = let one : suc i ≡ i + 1 = omega arith in
      behind xs i x e ∙ ap (λ k. x ∷ drop k xs) one
    where
      behind : (xs : List A) (i : ℕ) (x : A) → slice_get xs i ≡ Some x
          → drop i xs ≡ x ∷ drop (suc i) xs
      behind [] i x e = absurd (cc)
      behind (y ∷ ys) zero x e = let same : y ≡ x = cc in ap (λ z. z ∷ ys) same
      behind (y ∷ ys) (suc i) x e = behind ys i x e

pub range-more : (a n : ℕ) → range_with_len a (suc n) ≡ range_with_len a n ++ (a + n) ∷ []
range-more a zero = let same : a ≡ a + 0 = omega arith in ap (λ k. k ∷ []) same
range-more a (suc n) =
    let same : a + 1 + n ≡ a + suc n = omega arith in
    ap (λ (l : List ℕ). a ∷ l) (range-more (a + 1) n)
    ∙ ap (λ k. a ∷ range_with_len (a + 1) n ++ k ∷ []) same

-- a place in a row of some rows, all of one length
pub below-row : (n c j m : ℕ) → c < n → j < m → j * n + c < m * n
below-row n c j m few lt = let l : n * suc j ≤ n * m = mul-le-mul_left n lt in omega (arith, l, few)

-- ---- of more places than there are values below a bound two have the same

-- x, or one less above v
abbrev squeezed : ℕ → ℕ → ℕ
squeezed v x = x - min 1 (x - v)

-- the value at a place below n, or at none
met-or-not : (n : ℕ) (f : ℕ → ℕ) (v : ℕ) → ((i : ℕ) × (i < n) × (f i ≡ v))
    ⊎ ((i : ℕ) → i < n → f i ≢ v)
met-or-not zero f v = inr (λ i lt. absurd (omega arith))
met-or-not (suc n) f v =
    elim (cases_eq (f n) v) [
      | inl e ↦ inl (n, omega arith, e)
      | inr apart ↦ elim (met-or-not n f v) [
        | inl (i, lt, e) ↦ inl (i, omega arith, e)
        | inr none ↦ inr (λ i lt. elim (cases_eq i n) [
          | inl same ↦ let P : ℕ → Type 0 = λ q. f q ≢ v in subst P (sym same) apart
          | inr less ↦ none i (omega arith)
        ])
      ]
    ]

pub two-equal : (n : ℕ) (f : ℕ → ℕ) → ((i : ℕ) → i ≤ n → f i < n)
    → (i : ℕ) × (j : ℕ) × (i < j) × (j ≤ n) × (f i ≡ f j)
two-equal zero f small = absurd (omega (arith, small 0 (omega arith)))
two-equal (suc n) f small =
    elim (met-or-not (suc n) f (f (suc n))) [
      | inl (i, lt, e) ↦ (i, suc n, lt, omega arith, e)
      | inr none ↦
          let last : f (suc n) < suc n = small (suc n) (omega arith) in
          let (i, j, lt, le, e) = two-equal n (λ i. squeezed (f (suc n)) (f i))
          (λ i le. omega (arith, small i (omega arith), none i (omega arith))) in
          (i, j, lt, omega arith, omega (arith, e, none i (omega arith), none j (omega arith)))
    ]
