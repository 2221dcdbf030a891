-- Where no and depends on itself, all are taken.
use Rattle.std.proofs.Common.{◌≡◌, ℕ, zero, suc, ◌+◌, ◌-◌, ◌<◌, ◌≤◌, ◌⊎◌, true, false, inl, inr, refl, sym, ◌∙◌, subst, arith, Option, Some, None, List, [], ◌∷◌, ◌++◌, length, get_or, length-append, append-nil}
use Rattle.std.specs.Prelude.{option_to_list}
use Rattle.std.proofs.lemmas.Bool.{cases_lt, and_parts, and_from, or_left, or_right, or_cases, not-true, not_from_false, cases_Bool}
use Rattle.hy_base.proofs.Places.{two-equal}
use Rattle.aig_order.specs.declared.gate.Gate.{Gate}
use Rattle.aig_order.specs.Firsts.{holds}
use Rattle.aig_order.specs.Gates.{uses, waits, is_next, next_gate, taken, order, IsOrder, IsComplete, depends}
use Rattle.aig_order.proofs.Firsts.{below-none, some-any, any-some, place-holds}
use Rattle.aig_order.proofs.Orders.{taken-order, distinct}

module _ (gates : List Gate) where
  -- ---- dependence by few ands between

  more : (d k j : ℕ) → depends gates d k j ≡ true → depends gates (suc d) k j ≡ true
  more zero k j e = or_left _ _ e
  more (suc d) k j e =
      elim (or_cases (uses gates k j) _ e) [
        | inl here ↦ or_left _ _ here
        | inr rest ↦
            let (i, lt, both) = any-some (length gates) _ rest in
            let parts = and_parts (uses gates k i) (depends gates d i j) both in
            or_right (uses gates k j) _ (some-any (length gates) _ i lt (and_from _ _ parts.0 (more d i j parts.1)))
      ]

  pub raised : (c d k j : ℕ) → depends gates d k j ≡ true → depends gates (c + d) k j ≡ true
  raised zero d k j e = let P : ℕ → Type 0 = λ m. depends gates m k j ≡ true in let q : d ≡ 0 + d = omega arith in subst P q e
  raised (suc c) d k j e =
      let P : ℕ → Type 0 = λ m. depends gates m k j ≡ true in
      let q : suc (c + d) ≡ suc c + d = omega arith in
      subst P q (more (c + d) k j (raised c d k j e))

  pub along : (f : ℕ → ℕ) (top : ℕ) → ((m : ℕ) → m < top → uses gates (f m) (f (suc m)) ≡ true) → ((m : ℕ) → m < top → f m < length gates) → (d i j : ℕ) → j ≡ suc (i + d) → j ≤ top → depends gates d (f i) (f j) ≡ true
  along f top steps small zero i j e le =
      let P : ℕ → Type 0 = λ m. uses gates (f i) (f m) ≡ true in
      let q : suc i ≡ j = omega arith in
      subst P q (steps i (omega arith))
  along f top steps small (suc d) i j e le =
      or_right (uses gates (f i) (f j)) _ (some-any (length gates) _ (f (suc i)) (small (suc i) (omega arith)) (and_from _ _ (steps i (omega arith)) (along f top steps small d (suc i) j (omega arith) le)))

  -- ---- what is taken grows, or nothing can be taken any more

  grown-step : (list : List ℕ) (o : Option ℕ) (m : ℕ) → next_gate gates list ≡ o → length list ≡ m → (length (list ++ option_to_list o) ≡ suc m) ⊎ (next_gate gates (list ++ option_to_list o) ≡ None)
  grown-step list None m e long = let P : List ℕ → Type 0 = λ l. next_gate gates l ≡ None in inr (subst P (sym (append-nil list)) e)
  grown-step list (Some k) m e long = inl (omega (arith, length-append list (k ∷ [])))

  stuck-step : (list : List ℕ) (o : Option ℕ) → next_gate gates list ≡ o → o ≡ None → next_gate gates (list ++ option_to_list o) ≡ None
  stuck-step list None e is = let P : List ℕ → Type 0 = λ l. next_gate gates l ≡ None in subst P (sym (append-nil list)) e
  stuck-step list (Some k) e is = absurd (cc)

  grows : (m : ℕ) → (length (taken gates m) ≡ m) ⊎ (next_gate gates (taken gates m) ≡ None)
  grows zero = inl refl
  grows (suc m) =
      elim (grows m) [
        | inl long ↦ grown-step (taken gates m) (next_gate gates (taken gates m)) m refl long
        | inr stuck ↦ inr (stuck-step (taken gates m) (next_gate gates (taken gates m)) refl stuck)
      ]

  -- ---- all places full

  abbrev with_last : List ℕ → ℕ → ℕ → ℕ
  with_last list k i = elim (cases_lt i (length list)) [ inl inside ↦ get_or list i 0 | inr past ↦ k ]

  last-inside : (list : List ℕ) (k i : ℕ) → i < length list → with_last list k i ≡ get_or list i 0
  last-inside list k i lt = elim (cases_lt i (length list)) as (λ s. elim s [ inl inside ↦ get_or list i 0 | inr past ↦ k ] ≡ get_or list i 0) [ inl inside ↦ refl | inr past ↦ absurd (omega arith) ]

  last-past : (list : List ℕ) (k i : ℕ) → length list ≤ i → with_last list k i ≡ k
  last-past list k i le = elim (cases_lt i (length list)) as (λ s. elim s [ inl inside ↦ get_or list i 0 | inr past ↦ k ] ≡ k) [ inl inside ↦ absurd (omega arith) | inr past ↦ refl ]

  pub full : (list : List ℕ) → IsOrder gates list → length list ≡ length gates → (k : ℕ) → k < length gates → holds k list ≡ false → ⊥
  full list good long k lt missing =
      let (i, j, less, le, same) = two-equal (length gates) (with_last list k) (λ i le. elim (cases_lt i (length list)) [
        | inl inside ↦ omega (arith, last-inside list k i inside, (good i inside).0)
        | inr past ↦ omega (arith, last-past list k i past)
      ]) in
      let first : with_last list k i ≡ get_or list i 0 = last-inside list k i (omega arith) in
      elim (cases_lt j (length list)) [
        | inl inside ↦ distinct gates list good j i less inside (sym first ∙ same ∙ last-inside list k j inside)
        | inr past ↦
            let found : holds k list ≡ true = place-holds k list i (omega arith) (sym first ∙ same ∙ last-past list k j past) in
            cc
      ]

  -- ---- nothing can be taken any more

  pub record Left (list : List ℕ) : Type 0 where
    pub k : ℕ
    pub small : k < length gates
    pub missing : holds k list ≡ false

  module _ (list : List ℕ) (stuck : next_gate gates list ≡ None) where
    next-used : (x : Left list) → (y : Left list) × (uses gates x.k y.k ≡ true)
    next-used x =
        let no_next : is_next gates list x.k ≡ false = below-none (length gates) (is_next gates list) stuck x.k x.small in
        elim (cases_Bool (waits gates list x.k)) [
          | inl waiting ↦
              let (j, lt, both) = any-some (length gates) _ waiting in
              let parts = and_parts (uses gates x.k j) _ both in
              (record { k = j; small = lt; missing = not-true _ parts.1 }, parts.0)
          | inr idle ↦
              let next : is_next gates list x.k ≡ true = and_from _ _ (not_from_false _ x.missing) (not_from_false _ idle) in
              absurd (cc)
        ]

    abbrev chain : Left list → ℕ → Left list
    chain x zero = x
    chain x (suc i) = (next-used (chain x i)).0

    cycle-left : Left list → (k : ℕ) × (k < length gates) × (depends gates (length gates) k k ≡ true)
    cycle-left x =
        let f : ℕ → ℕ = λ i. (chain x i).k in
        let (i, j, less, le, same) = two-equal (length gates) f (λ i le. (chain x i).small) in
        let round : depends gates (j - suc i) (f i) (f j) ≡ true = along f j (λ m lt. (next-used (chain x m)).1) (λ m lt. (chain x m).small) (j - suc i) i j (omega arith) (omega arith) in
        let P : ℕ → Type 0 = λ m. depends gates m (f i) (f j) ≡ true in
        let q : length gates - (j - suc i) + (j - suc i) ≡ length gates = omega arith in
        let high : depends gates (length gates) (f i) (f j) ≡ true = subst P q (raised (length gates - (j - suc i)) (j - suc i) (f i) (f j) round) in
        let R : ℕ → Type 0 = λ v. depends gates (length gates) (f i) v ≡ true in
        (f i, (chain x i).small, subst R (sym same) high)

  pub complete : ((k : ℕ) → k < length gates → depends gates (length gates) k k ≡ false) → IsComplete gates (order gates)
  complete none k lt =
      elim (cases_Bool (holds k (order gates))) [
        | inl found ↦ found
        | inr missing ↦
            elim (grows (length gates)) [
              | inl long ↦ absurd (full (order gates) (taken-order gates (length gates)) long k lt missing)
              | inr stuck ↦
                  let (c, small, round) = cycle-left (order gates) stuck (record { k = k; small = lt; missing = missing }) in
                  let clear : depends gates (length gates) c c ≡ false = none c small in
                  absurd (cc)
            ]
      ]
