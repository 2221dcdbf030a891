-- A lasso execution, gone round for ever, is an execution, and an execution that recurs is that of a lasso.
use Rattle.std.proofs.Common.{◌≡◌, ℕ, suc, ◌+◌, ◌-◌, ◌*◌, ◌%◌, ◌<◌, length, IsTrue, get_or, inl, inr, refl, sym, ap, ◌∙◌, subst, arith}
use Rattle.std.proofs.Math.Nat.{mod-eq_of_lt, mod-lt}
use Rattle.std.proofs.Math.Path.{fun_ext}
use Rattle.std.proofs.lemmas.Bool.{cases_eq, cases_lt}
use Rattle.std.proofs.lemmas.List.{get_or_append_left, get_or-append_right}
use Rattle.aig_net.specs.Nets.{Net, Valuation, latch_variable, IsRight, IsStart, IsStep, AllTrue, literal_value, literal_at}
use Rattle.aig_net.specs.Executions.{Word, IsRun, no_values, gone, steps, step_at, IsLassoExecution, IsExecution, IsFair, Lasso, value_in, lasso_of, part, Recurs}
use Rattle.aig_net.proofs.Rounds.{in-stem, in-cycle, lasso-repeats, gone-recurs, gone-fair, recurring, length-part}
use Rattle.aig_net.proofs.Looping.{loop-run}

-- the steps as places of the word
step-gone : (lasso : Lasso) (i : ℕ) → i < steps lasso → step_at lasso i ≡ gone lasso i
step-gone lasso i lt =
    elim (cases_lt i (length lasso.stem)) [
      | inl early ↦ get_or_append_left lasso.stem lasso.cycle no_values i early
          ∙ sym (in-stem lasso i early)
      | inr late ↦
          let once : (i - length lasso.stem) % length lasso.cycle ≡ i - length lasso.stem =
          mod-eq_of_lt (omega arith) in
          get_or-append_right lasso.stem lasso.cycle (length lasso.stem) i no_values refl late
          ∙ ap (λ x. get_or lasso.cycle x no_values) (sym once) ∙ sym (in-cycle lasso i late)
    ]

round-same : (lasso : Lasso) → gone lasso (steps lasso) ≡ gone lasso (length lasso.stem)
round-same lasso =
    let e : length lasso.stem + 1 * length lasso.cycle ≡ steps lasso = omega arith in
    ap (gone lasso) (sym e) ∙ lasso-repeats lasso 1 (length lasso.stem) (omega arith)

module _ (net : Net) (lasso : Lasso) where
  pub closed-run : IsLassoExecution net lasso → IsRun net (gone lasso)
  closed-run is =
      let s : ℕ = length lasso.stem in
      let c : ℕ = length lasso.cycle in
      let R : Valuation → Type 0 = IsRight net in
      let K : Valuation → Type 0 = AllTrue net.constraints in
      let S : Valuation → Type 0 = IsStart net in
      let same : gone (lasso_of (gone lasso) s c) ≡ gone lasso =
      fun_ext (λ i. fun_ext (λ v. recurring (gone lasso) s c
      (gone-recurs lasso is.some) i v)) in
      let W : Word → Type 0 = IsRun net in
      let next : (i : ℕ) → i < s + c → IsStep net (gone lasso i) (gone lasso (suc i)) =
      λ i lt. step i lt is in
      subst W same
      (loop-run net (gone lasso) s c is.some (let first : 0 < steps lasso =
      omega (arith, is.some) in subst S (step-gone lasso 0 first) is.starts)
      (λ i lt. subst R (step-gone lasso i lt) (is.right i lt)) next
      (λ i lt. subst K (step-gone lasso i lt) (is.kept i lt))
      (λ j few. ap (λ v. v (latch_variable net j)) (round-same lasso)))
    where
      step : (i : ℕ) → i < steps lasso → IsLassoExecution net lasso →
          IsStep net (gone lasso i) (gone lasso (suc i))
      step i lt is =
          let P : Valuation → Type 0 = λ v. IsStep net v (gone lasso (suc i)) in
          subst P (step-gone lasso i lt)
          (elim (cases_eq (suc i) (steps lasso)) [
            | inl e ↦
                let last : steps lasso - 1 ≡ i = omega (arith, e) in
                let Q : ℕ → Type 0 = λ x. IsStep net (step_at lasso x) (gone lasso (suc i)) in
                let R : Valuation → Type 0 = IsStep net (step_at lasso (steps lasso - 1)) in
                let first : length lasso.stem < steps lasso = omega (arith, is.some) in
                subst Q last (subst R (step-gone lasso (length lasso.stem) first
                ∙ sym (round-same lasso) ∙ ap (gone lasso) (sym e)) is.back)
            | inr apart ↦ let R : Valuation → Type 0 = IsStep net (step_at lasso i) in
                subst R (step-gone lasso (suc i) (omega arith)) (is.goes i (omega arith))
          ])

  -- each fairness literal is true in the cycle
  abbrev pub FairRound : Type 0
  FairRound =
      (j : ℕ) → j < length net.fairs →
      (k : ℕ) × (k < length lasso.cycle) ×
      IsTrue (literal_value (value_in lasso.cycle k) (literal_at net.fairs j))

  pub run-closed : 0 < length lasso.cycle → IsRun net (gone lasso) → FairRound →
      IsLassoExecution net lasso
  run-closed some run fair =
      let R : Valuation → Type 0 = IsRight net in
      let K : Valuation → Type 0 = AllTrue net.constraints in
      let S : Valuation → Type 0 = IsStart net in
      let last : suc (steps lasso - 1) ≡ steps lasso = omega (arith, some) in
      let L : Valuation → Type 0 = λ v. IsStep net v (step_at lasso (length lasso.stem)) in
      let N : Valuation → Type 0 = IsStep net (gone lasso (steps lasso - 1)) in
      record {
        some = some;
        starts = subst S (sym (step-gone lasso 0 (omega (arith, some)))) run.starts;
        right = λ i lt. subst R (sym (step-gone lasso i lt)) (run.right i);
        kept = λ i lt. subst K (sym (step-gone lasso i lt)) (run.kept i);
        goes = λ i lt.
            let P : Valuation → Type 0 = λ v. IsStep net v (step_at lasso (suc i)) in
            let Q : Valuation → Type 0 = IsStep net (gone lasso i) in
            subst P (sym (step-gone lasso i (omega arith)))
            (subst Q (sym (step-gone lasso (suc i) lt)) (run.goes i));
        back =
            subst L (sym (step-gone lasso (steps lasso - 1) (omega (arith, some))))
            (subst N (ap (gone lasso) last ∙ round-same lasso
            ∙ sym (step-gone lasso (length lasso.stem) (omega (arith, some))))
            (run.goes (steps lasso - 1)));
        fair = fair;
      }

  fair-round : 0 < length lasso.cycle → IsFair net (gone lasso) → FairRound
  fair-round some fair j lt =
      let (k, from, here) = fair j lt (length lasso.stem) in
      let P : Valuation → Type 0 = λ v. IsTrue (literal_value v (literal_at net.fairs j)) in (
        (k - length lasso.stem) % length lasso.cycle,
        mod-lt (k - length lasso.stem) some,
        subst P (in-cycle lasso k from) here,
      )

pub gone-execution : (net : Net) (lasso : Lasso) → IsLassoExecution net lasso →
    IsExecution net (gone lasso)
gone-execution net lasso is = record {
  run = closed-run net lasso is;
  fair =
      gone-fair net lasso is;
}

pub recurring-execution : (net : Net) (word : Word) (s c : ℕ) → Recurs word s c →
    IsExecution net word → IsLassoExecution net (lasso_of word s c)
recurring-execution net word s c r is =
    let same : gone (lasso_of word s c) ≡ word =
    fun_ext (λ i. fun_ext (λ v. recurring word s c r i v)) in
    let W : Word → Type 0 = IsExecution net in
    let long : length (part word s c) ≡ c = length-part word s c in
    let execution : W (gone (lasso_of word s c)) = subst W (sym same) is in
    let some : 0 < length (part word s c) = omega (arith, r.some, long) in
    run-closed net (lasso_of word s c) some execution.run
    (fair-round net (lasso_of word s c) some execution.fair)
