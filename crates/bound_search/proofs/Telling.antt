-- Rows that say what holds at places, made of others place by place.
use Rattle.std.proofs.Common.{◌≡◌, ℕ, zero, suc, ◌+◌, ◌<◌, ◌≤◌, ◌↔◌, List, [], ◌∷◌, ◌++◌, length, take, drop, replicate, refl, ap, ◌∙◌, subst, arith, length-append, length-drop}
use Rattle.std.proofs.lemmas.List.{length-map}
use Rattle.std.specs.Prelude.{ℤ, neg_ℤ}
use Rattle.hy_formula.proofs.Repeating.{Steady}
use Rattle.chain_check.specs.Values.{Assignment}
use Rattle.hy_base.specs.Rows.{listed}
use Rattle.hy_base.proofs.Listed.{length-listed}
use Rattle.bound_search.specs.Rows.{Row, turned, next_row, first_or}
use Rattle.bound_search.proofs.Saying.{Says, says-like, says-not}

-- Each has P, which is told its place; the first stands at place i.
abbrev pub EachFrom : {A : Type 0} → (ℕ → A → Type 0) → ℕ → List A → Type 0
EachFrom P i [] = Unit {0}
EachFrom P i (x ∷ xs) = P i x × EachFrom P (suc i) xs

pub each-dropped : {A : Type 0} (P : ℕ → A → Type 0) (i s j : ℕ) → i + s ≡ j → (xs : List A) →
    EachFrom P i xs → EachFrom P j (drop s xs)
each-dropped P i zero j e xs h =
    let same : i ≡ j = omega (arith, e) in
    let Q : ℕ → Type 0 = λ k. EachFrom P k xs in
    subst Q same h
each-dropped P i (suc s) j e [] h = tt
each-dropped P i (suc s) j e (x ∷ xs) (_, h) =
    each-dropped P (suc i) s j (omega (arith, e)) xs h

-- The literals say what holds at the places from i on.
abbrev pub Tells : Assignment → (ℕ → Type 0) → ℕ → Row → Type 0
Tells a P = EachFrom (λ k l. Says a l (P k))

-- The row says what holds at the n places from i on.
pub record IsTold (a : Assignment) (P : ℕ → Type 0) (i n : ℕ) (row : Row) : Type 0 where
  pub long : length row ≡ n
  pub told : Tells a P i row

module _ (a : Assignment) where
  pub told-same : (l : ℤ) (P : Type 0) → Says a l P → (i n : ℕ) →
      IsTold a (λ k. P) i n (replicate n l)
  told-same l P s i zero = record { long = refl; told = tt }
  told-same l P s i (suc n) =
      let rest = told-same l P s (suc i) n in
      record { long = ap suc rest.long; told = (s, rest.told) }

  tells-like : (P Q : ℕ → Type 0) (i : ℕ) (row : Row) →
      ((k : ℕ) → k < i + length row → P k ↔ Q k) → Tells a P i row → Tells a Q i row
  tells-like P Q i [] same t = tt
  tells-like P Q i (l ∷ row) same (s, t) =
      let here = same i (omega arith) in (
        says-like a l _ _ here.0 here.1 s,
        tells-like P Q (suc i) row (λ k lt. same k (omega (arith, lt))) t,
      )

  pub told-like : (P Q : ℕ → Type 0) (i n : ℕ) → ((k : ℕ) → k < i + n → P k ↔ Q k) →
      (row : Row) → IsTold a P i n row → IsTold a Q i n row
  told-like P Q i n same row t = record {
    long = t.long;
    told = tells-like P Q i row (λ k lt. same k (omega (arith, lt, t.long))) t.told;
  }

  tells-turned : (P : ℕ → Type 0) (i : ℕ) (row : Row) → Tells a P i row →
      Tells a (λ k. ¬ P k) i (turned row)
  tells-turned P i [] t = tt
  tells-turned P i (l ∷ row) (s, t) = (says-not a l _ s, tells-turned P (suc i) row t)

  pub told-turned : (P : ℕ → Type 0) (i n : ℕ) (row : Row) → IsTold a P i n row →
      IsTold a (λ k. ¬ P k) i n (turned row)
  told-turned P i n row t =
      record { long = length-map row neg_ℤ ∙ t.long; told = tells-turned P i row t.told }

  tells-listed : (P : ℕ → Type 0) (f : ℕ → ℤ) (i n : ℕ) →
      ((k : ℕ) → i ≤ k → k < i + n → Says a (f k) (P k)) → Tells a P i (listed i n f)
  tells-listed P f i zero all = tt
  tells-listed P f i (suc n) all = (
    all i (omega arith) (omega arith),
    tells-listed P f (suc i) n (λ k from lt. all k (omega arith) (omega arith)),
  )

  pub told-listed : (P : ℕ → Type 0) (f : ℕ → ℤ) (n : ℕ) →
      ((k : ℕ) → k < n → Says a (f k) (P k)) → IsTold a P 0 n (listed 0 n f)
  told-listed P f n all = record {
    long = length-listed 0 n f;
    told = tells-listed P f 0 n (λ k _ lt. all k (omega arith));
  }

  -- what holds at the first place, or else behind the last
  pub first-told : (P : ℕ → Type 0) (i n : ℕ) (later : ℤ) (row : Row) → IsTold a P i n row →
      Says a later (P (i + n)) → Says a (first_or later row) (P i)
  first-told P i n later [] t s =
      let e : i + n ≡ i = omega (arith, t.long) in
      let Q : ℕ → Type 0 = λ k. Says a later (P k) in
      subst Q e s
  first-told P i n later (l ∷ row) t s = t.told.0

  -- ---- place by place

  pub told-cons : (P : ℕ → Type 0) (i n : ℕ) (l : ℤ) (row : Row) → Says a l (P i) →
      IsTold a P (suc i) n row → IsTold a P i (suc n) (l ∷ row)
  told-cons P i n l row s t = record { long = ap suc t.long; told = (s, t.told) }

  -- ---- the next place

  tells-append : (P : ℕ → Type 0) (i : ℕ) (xs ys : Row) → Tells a P i xs →
      Tells a P (i + length xs) ys → Tells a P i (xs ++ ys)
  tells-append P i [] ys t u =
      let e : i + 0 ≡ i = omega arith in
      let Q : ℕ → Type 0 = λ k. Tells a P k ys in
      subst Q e u
  tells-append P i (x ∷ xs) ys (s, t) u =
      let e : i + suc (length xs) ≡ suc i + length xs = omega arith in
      let Q : ℕ → Type 0 = λ k. Tells a P k ys in
      (s, tells-append P (suc i) xs ys t (subst Q e u))

  -- what is told of the places from i + 1 on is told of the next ones from i on
  tells-next : (P : ℕ → Type 0) (i : ℕ) (row : Row) → Tells a P (i + 1) row →
      Tells a (λ k. P (k + 1)) i row
  tells-next P i [] t = tt
  tells-next P i (l ∷ row) (s, t) =
      let e : suc (i + 1) ≡ suc i + 1 = omega arith in
      let Q : ℕ → Type 0 = λ k. Tells a P k row in
      (s, tells-next P (suc i) row (subst Q e t))

  -- a row of the first place alone, which is told of another place
  told-one : (P Q : ℕ → Type 0) (i j : ℕ) (row : Row) → 0 < length row → Tells a P i row →
      P i ↔ Q j → IsTold a Q j 1 (take 1 row)
  told-one P Q i j [] some t same = absurd (omega arith)
  told-one P Q i j (l ∷ row) some t same =
      record { long = refl; told = (says-like a l _ _ same.0 same.1 t.0, tt) }

  -- a row's first place alone
  pub told-first : (P : ℕ → Type 0) (n : ℕ) (row : Row) → 0 < n → IsTold a P 0 n row →
      IsTold a P 0 1 (take 1 row)
  told-first P n row some t =
      told-one P P 0 0 row (omega (arith, t.long, some)) t.told (λ h. h, λ h. h)

  pub told-next : (P : ℕ → Type 0) (s c : ℕ) → 0 < c → Steady s c P → (row : Row) →
      IsTold a P 0 (s + c) row → IsTold a (λ k. P (k + 1)) 0 (s + c) (next_row s row)
  told-next P s c some steady row t =
      let short = length-drop 1 row in
      let j : ℕ = 0 + length (drop 1 row) in
      let e : s + c ≡ j + 1 = omega (arith, short, t.long) in
      let Q : ℕ → Type 0 = λ k. P s ↔ P k in
      let round = steady s (omega arith) in
      let behind = length-drop s row in
      let last = told-one P (λ k. P (k + 1)) s j (drop s row) (omega (arith, behind, t.long))
      (each-dropped _ 0 s s (omega arith) row t.told) (subst Q e (round.1, round.0)) in
      let all = length-append (drop 1 row) (take 1 (drop s row)) in
      record {
        long = omega (arith, all, short, t.long, last.long);
        told = tells-append _ 0 (drop 1 row) _
            (tells-next P 0 (drop 1 row) (each-dropped _ 0 1 (0 + 1) refl row t.told)) last.told;
      }
