-- The ands of a net come in their own order.
use Rattle.std.proofs.Common.{◌≡◌, ℕ, zero, suc, ◌+◌, ◌/◌, ◌<◌, ◌≤◌, ◌⊎◌, Bool, true, false, not, ◌&&◌, nat_eq, inl, inr, refl, sym, ◌∙◌, ap, arith, Some, None, List, [], ◌∷◌, ◌++◌, length}
use Rattle.std.specs.Prelude.{option_to_list}
use Rattle.std.specs.List.{range_with_len}
use Rattle.std.proofs.lemmas.Bool.{cases_eq, eqb-true, and_parts, and_from, or_cases, not-true, not_from_false, cases_Bool}
use Rattle.std.proofs.lemmas.List.FromFn.{length-range_with_len, get_or-range_with_len}
use Rattle.aig_order.specs.Firsts.{when, otherwise, first_below, holds}
use Rattle.aig_order.specs.declared.gate.Gate.{Gate}
use Rattle.aig_order.specs.Gates.{gate_at, uses, waits, is_next, next_gate, taken, order, AreSorted}
use Rattle.aig_order.proofs.Firsts.{any-some, holds-place, place-holds}

pub first-empty : (n : ℕ) (test : ℕ → Bool) → ((j : ℕ) → j < n → test j ≡ false) → first_below n test ≡ None
first-empty zero test none = refl
first-empty (suc n) test none = ap (λ o. otherwise o (when (test n) n)) (first-empty n test (λ j lt. none j (omega arith))) ∙ ap (λ b. when b n) (none n (omega arith))

pub first-is : (n : ℕ) (test : ℕ → Bool) (k : ℕ) → k < n → test k ≡ true → ((j : ℕ) → j < k → test j ≡ false) → first_below n test ≡ Some k
first-is zero test k lt yes_k none = absurd (omega arith)
first-is (suc n) test k lt yes_k none =
    elim (cases_eq k n) [
      | inl same ↦
          let here : test n ≡ true = ap test (sym same) ∙ yes_k in
          ap (λ o. otherwise o (when (test n) n)) (first-empty n test (λ j less. none j (omega arith))) ∙ ap (λ b. when b n) here ∙ ap Some (sym same)
      | inr apart ↦ ap (λ o. otherwise o (when (test n) n)) (first-is n test k (omega arith) yes_k none)
    ]

pub range-more : (a n j : ℕ) → a + n ≡ j → range_with_len a n ++ j ∷ [] ≡ range_with_len a (suc n)
range-more a zero j e = let q : j ≡ a = omega arith in ap (λ b. b ∷ []) q
range-more a (suc n) j e = ap (λ l. a ∷ l) (range-more (a + 1) n j (omega arith))

holds-range : (m j : ℕ) → j < m → holds j (range_with_len 0 m) ≡ true
holds-range m j lt = place-holds j (range_with_len 0 m) j (omega (arith, length-range_with_len 0 m)) (get_or-range_with_len 0 m j 0 lt ∙ (omega arith))

range-lacks : (m : ℕ) → holds m (range_with_len 0 m) ≡ false
range-lacks m = step (cases_Bool (holds m (range_with_len 0 m)))
  where
    step : (holds m (range_with_len 0 m) ≡ true) ⊎ (holds m (range_with_len 0 m) ≡ false) → holds m (range_with_len 0 m) ≡ false
    step (inl found) =
        let (q, lt, is) = holds-place m (range_with_len 0 m) found in
        let small : q < m = omega (arith, lt, length-range_with_len 0 m) in
        absurd (omega (arith, is, get_or-range_with_len 0 m q 0 small))
    step (inr missing) = missing

module _ (first : ℕ) (gates : List Gate) (sorted : AreSorted first gates) where
  uses-lower : (k j : ℕ) → k < length gates → j < length gates → uses gates k j ≡ true → j < k
  uses-lower k j small inside e =
      let (own, left, right) = sorted k small in
      elim (or_cases (nat_eq ((gate_at gates k).left / 2) ((gate_at gates j).lhs / 2)) _ e) [
        | inl l ↦ omega (arith, left, eqb-true _ _ l, (sorted j inside).0)
        | inr r ↦ omega (arith, right, eqb-true _ _ r, (sorted j inside).0)
      ]

  idle : (m : ℕ) → m < length gates → waits gates (range_with_len 0 m) m ≡ false
  idle m lt = step (cases_Bool (waits gates (range_with_len 0 m) m))
    where
      step : (waits gates (range_with_len 0 m) m ≡ true) ⊎ (waits gates (range_with_len 0 m) m ≡ false) → waits gates (range_with_len 0 m) m ≡ false
      step (inl waiting) =
          let (j, inside, both) = any-some (length gates) _ waiting in
          let parts = and_parts (uses gates m j) _ both in
          let missing : holds j (range_with_len 0 m) ≡ false = not-true _ parts.1 in
          let found : holds j (range_with_len 0 m) ≡ true = holds-range m j (uses-lower m j lt inside parts.0) in
          absurd (cc)
      step (inr no_wait) = no_wait

  past : (a b : Bool) → a ≡ true → (not a && b) ≡ false
  past true b e = refl
  past false b e = absurd (cc)

  next-is : (m : ℕ) → m < length gates → next_gate gates (range_with_len 0 m) ≡ Some m
  next-is m lt = first-is (length gates) (is_next gates (range_with_len 0 m)) m lt (and_from _ _ (not_from_false _ (range-lacks m)) (not_from_false _ (idle m lt))) (λ j less. past (holds j (range_with_len 0 m)) _ (holds-range m j less))

  taken-range : (m : ℕ) → m ≤ length gates → taken gates m ≡ range_with_len 0 m
  taken-range zero le = refl
  taken-range (suc m) le =
      ap (λ l. l ++ option_to_list (next_gate gates l)) (taken-range m (omega arith)) ∙ ap (λ o. range_with_len 0 m ++ option_to_list o) (next-is m (omega arith)) ∙ range-more 0 m m (omega arith)

  pub sorted-order : order gates ≡ range_with_len 0 (length gates)
  sorted-order = taken-range (length gates) (omega arith)
