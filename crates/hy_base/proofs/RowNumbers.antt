-- Counting by places: what has a place of its own each, and rows of values. Among more than b ^ n rows of n values
-- below b two are alike, and so are two among more than 2 ^ n rows of n truth values.
use Rattle.std.proofs.Common.{◌≡◌, ℕ, zero, suc, ◌+◌, ◌*◌, ◌^◌, ◌/◌, ◌%◌, ◌<◌, ◌≤◌, Bool, true, false, inl, inr, refl, sym, ap, ◌∙◌, subst, arith}
use Rattle.std.proofs.Math.Arith.{digits_lt, digits_div, digits_mod}
use Rattle.std.proofs.Math.Nat.{pow-zero, pow-succ', mul_comm}
use Rattle.std.proofs.lemmas.Bool.{cases_eq, cases_lt}
use Rattle.hy_base.proofs.Places.{two-equal}

-- ---- each has one of n places, and no two share one

module _ (m n : ℕ) (At : ℕ → ℕ → Type 0) (all : (i : ℕ) → i < m → (q : ℕ) × (q < n) × At i q)
    (alone : (i j q : ℕ) → i < j → j < m → At i q → At j q → ⊥) where
  found : (i : ℕ) → (q : ℕ) × (i < m → (q < n) × At i q)
  found i = elim (cases_lt i m) [
    | inl lt ↦ (let (q, inside, at) = all i lt in (q, λ _. (inside, at)))
    | inr past ↦ (0, λ lt. absurd (omega arith))
  ]

  abbrev place : ℕ → ℕ
  place i = (found i).0

  pub no-more : m ≤ n
  no-more = elim (cases_lt n m) [
    | inr le ↦ le
    | inl more ↦
        let (i, j, lt, le, e) = two-equal n place (λ i le. ((found i).1 (omega arith)).0) in
        let P : ℕ → Type 0 = At i in
        absurd (alone i j (place j) lt (omega arith) (subst P e ((found i).1 (omega arith)).1)
        ((found j).1 (omega arith)).1)
  ]

-- ---- rows

-- the first n values of a row as a number
abbrev number_of : ℕ → (ℕ → ℕ) → ℕ → ℕ
number_of b row zero = 0
number_of b row (suc n) = number_of b row n * b + row n

abbrev AreBelow : ℕ → (ℕ → ℕ) → ℕ → Type 0
AreBelow b row n = (k : ℕ) → k < n → row k < b

number-below : (b : ℕ) (row : ℕ → ℕ) (n : ℕ) → AreBelow b row n → number_of b row n < b ^ n
number-below b row zero small = rw pow-zero (omega arith)
number-below b row (suc n) small = rw (pow-succ', mul_comm b)
    (digits_lt (number-below b row n (λ k lt. small k (omega arith))) (small n (omega arith)))

same-number : (b : ℕ) (row other : ℕ → ℕ) (n : ℕ) → AreBelow b row n → AreBelow b other n →
    number_of b row n ≡ number_of b other n → (k : ℕ) → k < n → row k ≡ other k
same-number b row other zero small small' e k lt = absurd (omega arith)
same-number b row other (suc n) small small' e k lt =
    let here : row n < b = small n (omega arith) in
    let here' : other n < b = small' n (omega arith) in
    let last : row n ≡ other n = sym (digits_mod (number_of b row n) here) ∙ ap (λ x. x % b) e
    ∙ digits_mod (number_of b other n) here' in
    let front : number_of b row n ≡ number_of b other n =
    sym (digits_div (number_of b row n) here) ∙ ap (λ x. x / b) e
    ∙ digits_div (number_of b other n) here' in
    elim (cases_eq k n) [
      | inl at ↦ ap row at ∙ last ∙ ap other (sym at)
      | inr apart ↦ same-number b row other n (λ k lt. small k (omega arith))
          (λ k lt. small' k (omega arith)) front k (omega arith)
    ]

pub two-alike : (b n : ℕ) (rows : ℕ → ℕ → ℕ) → ((i : ℕ) → i ≤ b ^ n → AreBelow b (rows i) n) →
    (i : ℕ) × (j : ℕ) × (i < j) × (j ≤ b ^ n) × ((k : ℕ) → k < n → rows i k ≡ rows j k)
two-alike b n rows small =
    let (i, j, lt, le, e) = two-equal (b ^ n) (λ i. number_of b (rows i) n)
    (λ i le. number-below b (rows i) n (small i le)) in
    (i, j, lt, le, same-number b (rows i) (rows j) n (small i (omega arith)) (small j le) e)

-- ---- rows of truth values

abbrev bit : Bool → ℕ
bit true = 1
bit false = 0

bit-below : (b : Bool) → bit b < 2
bit-below true = omega arith
bit-below false = omega arith

bit-same : (a b : Bool) → bit a ≡ bit b → a ≡ b
bit-same true true e = refl
bit-same true false e = absurd (omega arith)
bit-same false true e = absurd (omega arith)
bit-same false false e = refl

pub two-rows : (n : ℕ) (rows : ℕ → ℕ → Bool) →
    (i : ℕ) × (j : ℕ) × (i < j) × (j ≤ 2 ^ n) × ((k : ℕ) → k < n → rows i k ≡ rows j k)
two-rows n rows =
    let (i, j, lt, le, e) = two-alike 2 n (λ i k. bit (rows i k)) (λ i _ k _. bit-below (rows i k)) in
    (i, j, lt, le, λ k few. bit-same (rows i k) (rows j k) (e k few))
