-- Where neither the base queries up to k nor the step query at k have an answer, no path reaches bad.
use Rattle.std.proofs.Common.{◌≡◌, ℕ, zero, suc, ◌+◌, ◌-◌, ◌<◌, ◌≤◌, Bool, true, cond, nat_lt, List, IsTrue, inl, inr, sym, ap, ◌∙◌, subst, arith}
use Rattle.std.proofs.lemmas.Bool.{cases_eq, cases_lt, false_from_ne_true}
use Rattle.hy_base.proofs.Truths.{cond-below, cond-above}
use Rattle.aig_net.specs.Nets.{ResetTo, Valuation, literal_value, reset_at, latch_variable, IsRight, IsStart, IsStep, AllTrue}
use Rattle.aig_net.specs.Executions.{Word}
use Rattle.live_safe.specs.declared.safe_net.SafeNet.{SafeNet}
use Rattle.live_safe.specs.Paths.{IsBadPath}
use Rattle.cnf_frames.specs.declared.facts.Fact.{Fact}
use Rattle.cnf_frames.specs.Facts.{AllHold, IsInductive}
use Rattle.cnf_frames.specs.QueryPaths.{SameState, IsStepPath}

module _ (safe : SafeNet) where
  -- a path that goes on from p as from q
  module _ (n : ℕ) (path : Word) (bad : IsBadPath safe n path) (p d : ℕ) (le : p + d ≤ n) (same : SameState safe.net (path p) (path (p + d))) where
    abbrev shorter : Word
    shorter i = cond (nat_lt i p) (path i) (path (i + d))

    early : (i : ℕ) → i < p → shorter i ≡ path i
    early i lt = cond-below i p (path i) (path (i + d)) lt

    late : (i : ℕ) → p ≤ i → shorter i ≡ path (i + d)
    late i from = cond-above i p (path i) (path (i + d)) from

    each : (P : ℕ → Valuation → Type 0) → ((i : ℕ) → i < p → P i (path i)) → ((i : ℕ) → p ≤ i → P i (path (i + d))) → (i : ℕ) → P i (shorter i)
    each P before after i =
        let Q : Valuation → Type 0 = P i in
        elim (cases_lt i p) [ inl lt ↦ subst Q (sym (early i lt)) (before i lt) | inr from ↦ subst Q (sym (late i from)) (after i from) ]

    goes : (i : ℕ) → i < n - d → IsStep safe.net (shorter i) (shorter (suc i))
    goes i lt =
        elim (cases_lt i p) [
          | inl before ↦
              let S : Valuation → Type 0 = λ v. IsStep safe.net v (shorter (suc i)) in
              subst S (sym (early i before))
              (elim (cases_eq (suc i) p) [
                | inl e ↦
                    let at : suc i + d ≡ p + d = omega arith in
                    let T : Valuation → Type 0 = IsStep safe.net (path i) in
                    subst T (sym (late (suc i) (omega arith)))
                    (λ j few. ap (λ x. path x (latch_variable safe.net j)) at ∙ sym (same j few) ∙ ap (λ x. path x (latch_variable safe.net j)) (sym e) ∙ bad.along.goes i (omega arith) j few)
                | inr apart ↦ let T : Valuation → Type 0 = IsStep safe.net (path i) in subst T (sym (early (suc i) (omega arith))) (bad.along.goes i (omega arith))
              ])
          | inr from ↦
              let S : Valuation → Type 0 = λ v. IsStep safe.net v (shorter (suc i)) in
              let T : Valuation → Type 0 = IsStep safe.net (path (i + d)) in
              let at : suc i + d ≡ suc (i + d) = omega arith in
              subst S (sym (late i from)) (subst T (sym (late (suc i) (omega arith) ∙ ap path at)) (bad.along.goes (i + d) (omega arith)))
        ]

    starts : IsStart safe.net (shorter 0)
    starts =
        elim (cases_eq p 0) [
          | inl e ↦
              let at : 0 + d ≡ p + d = omega arith in
              let S : Valuation → Type 0 = IsStart safe.net in
              subst S (sym (late 0 (omega arith) ∙ ap path at))
              (λ j few. let P : Bool → Type 0 = ResetTo (reset_at safe.net.resets j) in subst P (ap (λ x. path x (latch_variable safe.net j)) (sym e) ∙ same j few) (bad.starts j few))
          | inr apart ↦ let S : Valuation → Type 0 = IsStart safe.net in subst S (sym (early 0 (omega arith))) bad.starts
        ]

    shortened : IsBadPath safe (n - d) shorter
    shortened = record {
      starts = starts;
      along = record {
        right = λ i le'. each (λ i v. i ≤ n - d → IsRight safe.net v) (λ i lt small. bad.along.right i (omega arith)) (λ i from small. bad.along.right (i + d) (omega arith)) i le';
        kept = λ i lt. each (λ i v. i < n - d → AllTrue safe.net.constraints v) (λ i before small. bad.along.kept i (omega arith)) (λ i from small. bad.along.kept (i + d) (omega arith)) i lt;
        goes = goes;
      };
      ends =
          let at : n - d + d ≡ n = omega arith in
          let P : Valuation → Type 0 = λ v. IsTrue (literal_value v safe.bad) in
          subst P (sym (late (n - d) (omega arith) ∙ ap path at)) bad.ends;
    }

  -- a bad state ends a shorter path
  cut : (n : ℕ) (path : Word) → IsBadPath safe n path → (i : ℕ) → i ≤ n → literal_value (path i) safe.bad ≡ true → IsBadPath safe i path
  cut n path bad i le is = record {
    starts = bad.starts;
    along = record {
      right = λ j le'. bad.along.right j (omega arith);
      kept = λ j lt. bad.along.kept j (omega arith);
      goes = λ j lt. bad.along.goes j (omega arith);
    };
    ends = is;
  }

  module _ (facts : List Fact) (inductive : IsInductive safe.net facts) where
    -- facts hold along a path from the start
    known : (n : ℕ) (path : Word) → IsBadPath safe n path → (i : ℕ) → i ≤ n → AllHold safe.net facts (path i)
    known n path bad zero le = inductive.starts (path 0) bad.starts
    known n path bad (suc i) le =
        inductive.stays (path i) (path (suc i)) (bad.along.right i (omega arith)) (bad.along.kept i (omega arith)) (bad.along.goes i (omega arith)) (known n path bad i (omega arith))

    module _ (k : ℕ) (base : (i : ℕ) → i ≤ k → (path : Word) → ¬ IsBadPath safe i path) (step : (path : Word) → ¬ IsStepPath safe facts k path) where
      -- a path of n steps, where none of fewer steps is bad, is long, and its end answers the step query
      last-part : (n : ℕ) (path : Word) → ((i : ℕ) → i < n → (path : Word) → ¬ IsBadPath safe i path) → k < n → IsBadPath safe n path → IsStepPath safe facts k (λ i. path (i + (n - suc k)))
      last-part n path none long bad =
          let o : ℕ = n - suc k in
          record {
            along = record {
              right = λ i le. bad.along.right (i + o) (omega arith);
              kept = λ i lt. bad.along.kept (i + o) (omega arith);
              goes = λ i lt. let e : suc i + o ≡ suc (i + o) = omega arith in let T : Valuation → Type 0 = IsStep safe.net (path (i + o)) in subst T (ap path (sym e)) (bad.along.goes (i + o) (omega arith));
            };
            known = λ i le. known n path bad (i + o) (omega arith);
            good = λ i le. false_from_ne_true _ (λ is. none (i + o) (omega arith) path (cut n path bad (i + o) (omega arith) is));
            apart = λ i j lt le same.
                let e : j + o ≡ i + o + (j - i) = omega arith in
                let S : ℕ → Type 0 = λ x. SameState safe.net (path (i + o)) (path x) in
                none (n - (j - i)) (omega arith) _ (shortened n path bad (i + o) (j - i) (omega arith) (subst S e same));
            ends = let e : suc k + o ≡ n = omega arith in let P : ℕ → Type 0 = λ x. IsTrue (literal_value (path x) safe.bad) in subst P (sym e) bad.ends;
          }

      none-below : (m n : ℕ) → n < m → (path : Word) → ¬ IsBadPath safe n path
      none-below zero n lt path bad = omega arith
      none-below (suc m) n lt path bad =
          elim (cases_lt k n) [
            | inr short ↦ base n short path bad
            | inl long ↦ step (λ i. path (i + (n - suc k))) (last-part n path (λ i less. none-below m i (omega arith)) long bad)
          ]

      pub never-bad : (n : ℕ) (path : Word) → ¬ IsBadPath safe n path
      never-bad n path = none-below (suc n) n (omega arith) path
