-- Wires are made with their values.
use Rattle.std.proofs.Common.{◌≡◌, ℕ, zero, suc, ◌+◌, ◌-◌, ◌<◌, ◌≤◌, Bool, true, false, not, ◌&&◌, min, max, List, [], ◌∷◌, ◌++◌, length, get_or, inl, inr, refl, sym, ap, ◌∙◌, subst, arith, length-append}
use Rattle.std.proofs.lemmas.Bool.{cases_eq, cases_lt}
use Rattle.std.proofs.lemmas.List.{get_or_append_left, get_or_at}
use Rattle.aig_net.specs.declared.parts.And.{And}
use Rattle.aig_net.specs.Nets.{no_and, Valuation, literal_value, and_value, literal_at, Below, AreRight, AreOrdered, AreTurned}
use Rattle.aig_net.specs.Wires.{Wire, literal, opposed, both, wire_value, wire_at, WireBelow, Made, and_of, made, MadeAll, made_all, made_each}
use Rattle.aig_net.proofs.Literals.{value-even, value-opposite, below-even, below-opposite}

length-last : {A : Type 0} (xs : List A) (x : A) → length (xs ++ x ∷ []) ≡ suc (length xs)
length-last xs x = length-append xs (x ∷ []) ∙ omega arith

pub right-first : (first : ℕ) (ands more : List And) (v : Valuation) →
    AreRight first (ands ++ more) v → AreRight first ands v
right-first first ands more v right j lt =
    let l : length (ands ++ more) ≡ length ands + length more = length-append ands more in
    right j (omega arith) ∙ ap (and_value v) (get_or_append_left ands more no_and j lt)

right-last : (first : ℕ) (ands : List And) (a : And) (v : Valuation) →
    AreRight first (ands ++ a ∷ []) v → v (first + length ands) ≡ and_value v a
right-last first ands a v right =
    let l : length (ands ++ a ∷ []) ≡ suc (length ands) = length-last ands a in
    right (length ands) (omega arith)
    ∙ ap (and_value v) (get_or_at ands a [] no_and (length ands) refl)

ordered-last : (first : ℕ) (ands : List And) (a : And) → AreOrdered first ands →
    Below (first + length ands) a.left → Below (first + length ands) a.right →
    AreOrdered first (ands ++ a ∷ [])
ordered-last first ands a good l r j lt =
    let many : length (ands ++ a ∷ []) ≡ suc (length ands) = length-last ands a in
    let P : And → Type 0 = λ x. Below (first + j) x.left × Below (first + j) x.right in
    elim (cases_eq j (length ands)) [
      | inl e ↦
          let here : get_or (ands ++ a ∷ []) j no_and ≡ a = get_or_at ands a [] no_and j (sym e) in
          subst P (sym here) (let Q : ℕ → Type 0 =
          λ n. Below (first + n) a.left × Below (first + n) a.right in subst Q (sym e) (l, r))
      | inr apart ↦
          let small : j < length ands = omega arith in
          subst P (sym (get_or_append_left ands (a ∷ []) no_and j small)) (good j small)
    ]

and-comm : (a b : Bool) → (a && b) ≡ (b && a)
and-comm true true = refl
and-comm true false = refl
and-comm false true = refl
and-comm false false = refl

pub and-of-value : (v : Valuation) (a b : ℕ) →
    and_value v (and_of a b) ≡ (literal_value v a && literal_value v b)
and-of-value v a b =
    elim (cases_lt a b) [
      | inl lt ↦
          let l : max a b ≡ b = omega arith in
          let r : min a b ≡ a = omega arith in
          ap (λ x. literal_value v x && literal_value v (min a b)) l
          ∙ ap (λ x. literal_value v b && literal_value v x) r
          ∙ and-comm (literal_value v b) (literal_value v a)
      | inr le ↦
          let l : max a b ≡ a = omega arith in
          let r : min a b ≡ b = omega arith in
          ap (λ x. literal_value v x && literal_value v (min a b)) l
          ∙ ap (λ x. literal_value v a && literal_value v x) r
    ]

pub below-max : (n a b : ℕ) → Below n a → Below n b → Below n (max a b)
below-max n a b p q =
    let P : ℕ → Type 0 = Below n in
    elim (cases_lt a b) [
      | inl lt ↦ let e : b ≡ max a b = omega arith in
          subst P e q
      | inr le ↦ let e : a ≡ max a b = omega arith in subst P e p
    ]

pub below-min : (n a b : ℕ) → Below n a → Below n b → Below n (min a b)
below-min n a b p q =
    let P : ℕ → Type 0 = Below n in
    elim (cases_lt a b) [
      | inl lt ↦ let e : a ≡ min a b = omega arith in
          subst P e p
      | inr le ↦ let e : b ≡ min a b = omega arith in subst P e q
    ]

pub below-more : (n m l : ℕ) → n ≤ m → Below n l → Below m l
below-more n m l le lt = omega (arith, lt)

pub wire-more : (n m : ℕ) (w : Wire) → n ≤ m → WireBelow n w → WireBelow m w
wire-more n m (literal l) le below = below-more n m l le below
wire-more n m (opposed w) le below = wire-more n m w le below
wire-more n m (both x y) le (p, q) = (wire-more n m x le p, wire-more n m y le q)

pub grows : (first : ℕ) (ands : List And) (w : Wire) → length ands ≤ length (made first ands w).ands
grows first ands (literal l) = omega arith
grows first ands (opposed w) = grows first ands w
grows first ands (both x y) =
    let a = grows first ands x in
    let b = grows first (made first ands x).ands y in
    let l = length-last (made first (made first ands x).ands y).ands
    (and_of (made first ands x).literal (made first (made first ands x).ands y).literal) in
    omega (arith, a, b, l)

pub made-right : (first : ℕ) (ands : List And) (w : Wire) (v : Valuation) →
    AreRight first (made first ands w).ands v →
    AreRight first ands v × (literal_value v (made first ands w).literal ≡ wire_value v w)
made-right first ands (literal l) v right = (right, refl)
made-right first ands (opposed w) v right =
    let (rest, here) = made-right first ands w v right in
    (rest, value-opposite v (made first ands w).literal ∙ ap not here)
made-right first ands (both x y) v right =
    let a : Made = made first ands x in
    let b : Made = made first (made first ands x).ands y in
    let (ra, right-y) = made-right first (made first ands x).ands y v
    (right-first first b.ands (and_of a.literal b.literal ∷ []) v right) in
    let (rest, right-x) = made-right first ands x v ra in (
      rest,
      value-even v (first + length b.ands)
          ∙ right-last first b.ands (and_of a.literal b.literal) v right
          ∙ and-of-value v a.literal b.literal ∙ ap (λ c. c && literal_value v b.literal) right-x
          ∙ ap (λ c. wire_value v x && c) right-y,
    )

pub made-ordered : (first : ℕ) (ands : List And) (w : Wire) → AreOrdered first ands →
    WireBelow (first + length ands) w →
    AreOrdered first (made first ands w).ands
    × Below (first + length (made first ands w).ands) (made first ands w).literal
made-ordered first ands (literal l) good below = (good, below)
made-ordered first ands (opposed w) good below =
    let (rest, here) = made-ordered first ands w good below in (
      rest,
      below-opposite (first + length (made first ands w).ands)
          (made first ands w).literal here,
    )
made-ordered first ands (both x y) good (p, q) =
    let a : Made = made first ands x in
    let b : Made = made first (made first ands x).ands y in
    let more = grows first ands x in
    let more' = grows first (made first ands x).ands y in
    let (oa, la) = made-ordered first ands x good p in
    let (ob, lb) = made-ordered first (made first ands x).ands y oa
    (wire-more (first + length ands) (first + length a.ands) y (omega (arith, more)) q) in
    let la' : Below (first + length b.ands) a.literal =
    below-more (first + length a.ands) (first + length b.ands) a.literal
    (omega (arith, more')) la in
    let l = length-last b.ands (and_of a.literal b.literal) in (
      ordered-last first b.ands (and_of a.literal b.literal) ob
          (below-max (first + length b.ands) a.literal b.literal la' lb)
          (below-min (first + length b.ands) a.literal b.literal la' lb),
      below-even _
          (first + length b.ands) (omega (arith, l)),
    )

-- ---- wires one after the other

pub all-grow : (first : ℕ) (ands : List And) (ws : List Wire) →
    length ands ≤ length (made_all first ands ws).ands
all-grow first ands [] = omega arith
all-grow first ands (w ∷ ws) =
    omega (arith, grows first ands w, all-grow first (made first ands w).ands ws)

pub all-length : (first : ℕ) (ands : List And) (ws : List Wire) →
    length (made_all first ands ws).literals ≡ length ws
all-length first ands [] = refl
all-length first ands (w ∷ ws) = ap suc (all-length first (made first ands w).ands ws)

pub all-right : (first : ℕ) (ands : List And) (ws : List Wire) (v : Valuation) →
    AreRight first (made_all first ands ws).ands v →
    AreRight first ands v × ((j : ℕ) → j < length ws →
    literal_value v (literal_at (made_all first ands ws).literals j) ≡ wire_value v (wire_at ws j))
all-right first ands [] v right = (right, λ j lt. absurd (omega arith))
all-right first ands (w ∷ ws) v right =
    let (rest, later) = all-right first (made first ands w).ands ws v right in
    let (first-ones, here) = made-right first ands w v rest in
    (first-ones, at here later)
  where
    at : literal_value v (made first ands w).literal ≡ wire_value v w →
        ((j : ℕ) → j < length ws → literal_value v
        (literal_at (made_all first (made first ands w).ands ws).literals j) ≡ wire_value v
        (wire_at ws j)) → (j : ℕ) → j < suc (length ws) →
        literal_value v (literal_at (made_all first ands (w ∷ ws)).literals j) ≡ wire_value v
        (wire_at (w ∷ ws) j)
    at here later zero lt = here
    at here later (suc j) lt = later j (omega arith)

pub all-ordered : (first : ℕ) (ands : List And) (ws : List Wire) → AreOrdered first ands →
    ((j : ℕ) → j < length ws → WireBelow (first + length ands) (wire_at ws j)) →
    AreOrdered first (made_all first ands ws).ands
    × ((j : ℕ) → j < length ws → Below (first + length (made_all first ands ws).ands)
    (literal_at (made_all first ands ws).literals j))
all-ordered first ands [] good below = (good, λ j lt. absurd (omega arith))
all-ordered first ands (w ∷ ws) good below =
    let more = grows first ands w in
    let (og, here) = made-ordered first ands w good (below 0 (omega arith)) in
    let (all, later) = all-ordered first (made first ands w).ands ws og
    (λ j lt. wire-more (first + length ands) _ (wire_at ws j) (omega (arith, more))
    (below (suc j) (omega arith))) in
    (all, at here later)
  where
    at : Below (first + length (made first ands w).ands) (made first ands w).literal →
        ((j : ℕ) → j < length ws → Below
        (first + length (made_all first (made first ands w).ands ws).ands)
        (literal_at (made_all first (made first ands w).ands ws).literals j)) → (j : ℕ) →
        j < suc (length ws) → Below (first + length (made_all first ands (w ∷ ws)).ands)
        (literal_at (made_all first ands (w ∷ ws)).literals j)
    at here later zero lt =
        let more = all-grow first (made first ands w).ands ws in
        below-more _ (first + length (made_all first ands (w ∷ ws)).ands)
        (made first ands w).literal (omega (arith, more)) here
    at here later (suc j) lt = later j (omega arith)

-- ---- wires that use those before

module _ (first : ℕ) (ands : List And) (wire : (ℕ → ℕ) → ℕ → Wire) where
  abbrev pub stage : ℕ → MadeAll
  stage n = made_each first ands wire n

  abbrev pub lit : ℕ → ℕ → ℕ
  lit n = literal_at (stage n).literals

  pub each-length : (n : ℕ) → length (stage n).literals ≡ n
  each-length zero = refl
  each-length (suc n) =
      length-last (stage n).literals (made first (stage n).ands (wire (lit n) n)).literal
      ∙ ap suc (each-length n)

  pub each-grow : (n : ℕ) → length ands ≤ length (stage n).ands
  each-grow zero = omega arith
  each-grow (suc n) = omega (arith, each-grow n, grows first (stage n).ands (wire (lit n) n))

  -- literals stay
  pub lit-stays : (n k : ℕ) → k < n → lit (suc n) k ≡ lit n k
  lit-stays n k lt =
      let l = each-length n in
      get_or_append_left (stage n).literals
      ((made first (stage n).ands (wire (lit n) n)).literal ∷ []) 0 k (omega (arith, l))

  pub lit-new : (n : ℕ) → lit (suc n) n ≡ (made first (stage n).ands (wire (lit n) n)).literal
  lit-new n = get_or_at (stage n).literals
      (made first (stage n).ands (wire (lit n) n)).literal [] 0 n (each-length n)

  pub lit-early : (d k g : ℕ) → g < k → lit (k + d) g ≡ lit k g
  lit-early zero k g lt = let e : k + 0 ≡ k = omega arith in ap (λ n. lit n g) e
  lit-early (suc d) k g lt =
      let e : k + suc d ≡ suc (k + d) = omega arith in
      ap (λ n. lit n g) e ∙ lit-stays (k + d) g (omega arith) ∙ lit-early d k g lt

  pub lit-from : (n k g : ℕ) → k ≤ n → g < k → lit n g ≡ lit k g
  lit-from n k g le lt = let e : n ≡ k + (n - k) = omega arith in
      ap (λ n. lit n g) e ∙ lit-early (n - k) k g lt

  pub each-right : (v : Valuation) (n : ℕ) → AreRight first (stage n).ands v →
      AreRight first ands v × ((k : ℕ) → k < n →
      literal_value v (lit n k) ≡ wire_value v (wire (lit k) k))
  each-right v zero right = (right, λ k lt. absurd (omega arith))
  each-right v (suc n) right =
      let (rest, here) = made-right first (stage n).ands (wire (lit n) n) v right in
      let (first-ones, before) = each-right v n rest in
      (first-ones, at here before)
    where
      at : literal_value v (made first (stage n).ands (wire (lit n) n)).literal ≡ wire_value v
          (wire (lit n) n) → ((k : ℕ) → k < n →
          literal_value v (lit n k) ≡ wire_value v (wire (lit k) k)) → (k : ℕ) → k < suc n →
          literal_value v (lit (suc n) k) ≡ wire_value v (wire (lit k) k)
      at here before k lt =
          elim (cases_eq k n) [
            | inl e ↦
                let P : ℕ → Type 0 = λ k. literal_value v (lit (suc n) k) ≡ wire_value v
                (wire (lit k) k) in
                subst P (sym e) (ap (literal_value v) (lit-new n) ∙ here)
            | inr apart ↦ ap (literal_value v) (lit-stays n k (omega arith))
                ∙ before k (omega arith)
          ]

  pub each-ordered : (n : ℕ) → AreOrdered first ands →
      ((k : ℕ) → k < n → ((g : ℕ) → g < k → Below (first + length (stage k).ands) (lit k g)) →
      WireBelow (first + length (stage k).ands) (wire (lit k) k)) →
      AreOrdered first (stage n).ands
      × ((k : ℕ) → k < n → Below (first + length (stage n).ands) (lit n k))
  each-ordered zero good below = (good, λ k lt. absurd (omega arith))
  each-ordered (suc n) good below =
      let (rest, before) = each-ordered n good (λ k lt. below k (omega arith)) in
      let (all, here) = made-ordered first (stage n).ands (wire (lit n) n) rest
      (below n (omega arith) before) in
      (all, at before here)
    where
      at : ((k : ℕ) → k < n → Below (first + length (stage n).ands) (lit n k)) →
          Below (first + length (stage (suc n)).ands)
          (made first (stage n).ands (wire (lit n) n)).literal → (k : ℕ) → k < suc n →
          Below (first + length (stage (suc n)).ands) (lit (suc n) k)
      at before here k lt =
          let P : ℕ → Type 0 = Below (first + length (stage (suc n)).ands) in
          elim (cases_eq k n) [
            | inl e ↦ subst P (sym (ap (lit (suc n)) e ∙ lit-new n)) here
            | inr apart ↦
                let more = grows first (stage n).ands (wire (lit n) n) in
                subst P (sym (lit-stays n k (omega arith)))
                (below-more (first + length (stage n).ands) _ (lit n k) (omega (arith, more))
                (before k (omega arith)))
          ]

-- ---- the larger literal stands first

turned-last : (ands : List And) (a b : ℕ) → AreTurned ands → AreTurned (ands ++ and_of a b ∷ [])
turned-last ands a b good j lt =
    let many : length (ands ++ and_of a b ∷ []) ≡ suc (length ands) =
    length-last ands (and_of a b) in
    let P : And → Type 0 = λ x. x.right ≤ x.left in
    elim (cases_eq j (length ands)) [
      | inl e ↦ subst P (sym (get_or_at ands (and_of a b) [] no_and j (sym e))) (omega arith)
      | inr apart ↦
          let small : j < length ands = omega arith in
          subst P (sym (get_or_append_left ands (and_of a b ∷ []) no_and j small)) (good j small)
    ]

pub made-turned : (first : ℕ) (ands : List And) (w : Wire) → AreTurned ands →
    AreTurned (made first ands w).ands
made-turned first ands (literal l) good = good
made-turned first ands (opposed w) good = made-turned first ands w good
made-turned first ands (both x y) good =
    turned-last (made first (made first ands x).ands y).ands (made first ands x).literal
    (made first (made first ands x).ands y).literal
    (made-turned first (made first ands x).ands y (made-turned first ands x good))

pub all-turned : (first : ℕ) (ands : List And) (ws : List Wire) → AreTurned ands →
    AreTurned (made_all first ands ws).ands
all-turned first ands [] good = good
all-turned first ands (w ∷ ws) good =
    all-turned first (made first ands w).ands ws (made-turned first ands w good)
