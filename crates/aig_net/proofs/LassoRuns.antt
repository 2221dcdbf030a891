-- The run of a lasso execution is that of values which agree with it.
use Rattle.std.proofs.Common.{◌≡◌, ℕ, zero, suc, ◌+◌, ◌-◌, ◌%◌, ◌<◌, ◌≤◌, Bool, false, List, [], ◌∷◌, ◌++◌, map, take, drop, length, inl, inr, refl, sym, ap, ◌∙◌, subst, arith, length-append}
use Rattle.std.proofs.Math.Nat.{mod-lt}
use Rattle.std.proofs.lemmas.Bool.{cases_lt}
use Rattle.std.proofs.lemmas.List.{ext_get_or, get_or-drop, get_or-take, length-drop, length-map, length-take-le, map-append}
use Rattle.aig_net.specs.declared.run.Run.{Run}
use Rattle.aig_net.specs.declared.run.ValueLasso.{ValueLasso}
use Rattle.aig_net.specs.Nets.{Net, IsNet, Valuation, IsStep, latch_variable, literal_at, literal_value, variables}
use Rattle.hy_base.specs.Rows.{row, listed}
use Rattle.aig_net.specs.Executions.{Lasso, IsLassoExecution, gone, no_values, step_at, steps, value_in}
use Rattle.aig_net.specs.Following.{AreFull, row_at}
use Rattle.aig_net.specs.Rows.{input_row, latch_row}
use Rattle.aig_net.specs.Simulations.{IsExecutionOf, IsRunOf, inputs_of, latches_of, valuations}
use Rattle.hy_base.proofs.Listed.{at-listed, at-map, length-listed}
use Rattle.aig_net.proofs.Literals.{value-same}
use Rattle.aig_net.proofs.Rounds.{in-cycle, in-stem}
use Rattle.aig_net.proofs.Likeness.{true-alike, start-alike, right-alike, step-alike, Alike}

module _ (net : Net) (good : IsNet net) where
  -- ---- rows of values

  full_row : Valuation → List Bool
  full_row v = listed 0 (variables net) v

  full-length : (v : Valuation) → length (full_row v) ≡ variables net
  unfolding full_row
  full-length v = length-listed 0 (variables net) v

  full-at : (v : Valuation) → Alike net v (row (full_row v))
  unfolding full_row
  full-at v u lt = let plain : u ≡ 0 + u = omega arith in
      ap v plain ∙ sym (at-listed 0 (variables net) v false u lt)

  -- so many values from one on
  segment : (v : Valuation) (from n : ℕ) → from + n ≤ variables net →
      take n (drop from (full_row v)) ≡ listed 0 n (λ j. v (from + j))
  segment v from n le =
      let long = full-length v in
      let left : length (drop from (full_row v)) ≡ length (full_row v) - from =
      length-drop from (full_row v) in
      let many : length (take n (drop from (full_row v))) ≡ n =
      length-take-le n (drop from (full_row v)) (omega (arith, left, long, le)) in
      ext_get_or false _ _ (many ∙ sym (length-listed 0 n (λ j. v (from + j)))) (λ j lt.
      let few : j < n = omega (arith, many, lt) in
      let plain : 0 + j ≡ j = omega arith in
      get_or-take n (drop from (full_row v)) j false few ∙ get_or-drop from (full_row v) j false
      ∙ sym (full-at v (from + j) (omega (arith, few, le)))
      ∙ sym (at-listed 0 n (λ j. v (from + j)) false j few ∙ ap (λ j. v (from + j)) plain))

  full-latches : (v : Valuation) → latch_row net (full_row v) ≡ latches_of net v
  full-latches v = segment v (suc net.inputs) (length net.latches) (omega arith) ∙ later
    where
      later : listed 0 (length net.latches) (λ j. v (suc net.inputs + j)) ≡ latches_of net v
      later = same 0 (length net.latches)
        where
          same : (c n : ℕ) → listed c n (λ j. v (suc net.inputs + j)) ≡ listed c n
              (λ j. v (latch_variable net j))
          same c zero = refl
          same c (suc n) =
              let e : suc net.inputs + c ≡ latch_variable net c = omega arith in
              ap (λ x. v x ∷ listed (suc c) n (λ j. v (suc net.inputs + j))) e
              ∙ ap (λ l. v (latch_variable net c) ∷ l) (same (suc c) n)

  full-inputs : (v : Valuation) → input_row net (full_row v) ≡ inputs_of net v
  full-inputs v = segment v 1 net.inputs (omega arith) ∙ same 0 net.inputs
    where
      same : (c n : ℕ) → listed c n (λ j. v (1 + j)) ≡ listed c n (λ j. v (suc j))
      same c zero = refl
      same c (suc n) = let e : 1 + c ≡ suc c = omega arith in
          ap (λ x. v x ∷ listed (suc c) n (λ j. v (1 + j))) e
          ∙ ap (λ l. v (suc c) ∷ l) (same (suc c) n)

  rows-inputs : (list : List Valuation) →
      map (input_row net) (map full_row list) ≡ map (inputs_of net) list
  rows-inputs [] = refl
  rows-inputs (v ∷ list) =
      ap (λ x. x ∷ map (input_row net) (map full_row list)) (full-inputs v)
      ∙ ap (λ l. inputs_of net v ∷ l) (rows-inputs list)

  module _ (lasso : Lasso) where
    values : ValueLasso
    values = record { stem = map full_row lasso.stem; cycle = map full_row lasso.cycle }

    abbrev made : Lasso
    made = valuations values

    stems : length made.stem ≡ length lasso.stem
    unfolding values
    stems = length-map (map full_row lasso.stem) row ∙ length-map lasso.stem full_row

    cycles : length made.cycle ≡ length lasso.cycle
    unfolding values
    cycles = length-map (map full_row lasso.cycle) row ∙ length-map lasso.cycle full_row

    value-alike : (list : List Valuation) (i : ℕ) → i < length list →
        Alike net (value_in list i) (value_in (map row (map full_row list)) i)
    value-alike list i lt u few =
        let many = length-map list full_row in
        full-at (value_in list i) u few
        ∙ sym (ap (λ (v : Valuation). v u)
        (at-map row [] no_values (map full_row list) i (omega (arith, many, lt))
        ∙ ap row (at-map full_row no_values [] list i lt)))

    made-alike : (i : ℕ) → i < steps lasso → Alike net (step_at lasso i) (step_at made i)
    unfolding values
    made-alike i lt =
        let joined : map row (map full_row (lasso.stem ++ lasso.cycle)) ≡ made.stem ++ made.cycle =
        ap (map row) (map-append full_row lasso.stem lasso.cycle)
        ∙ map-append row (map full_row lasso.stem) (map full_row lasso.cycle) in
        let P : List Valuation → Type 0 = λ l. Alike net (step_at lasso i) (value_in l i) in
        let many = length-append lasso.stem lasso.cycle in
        subst P joined
        (value-alike (lasso.stem ++ lasso.cycle) i (omega (arith, many, lt)))

    whole : steps made ≡ steps lasso
    whole = let a = stems in let b = cycles in omega (arith, a, b)

    made-is : IsLassoExecution net lasso → IsLassoExecution net made
    unfolding values
    made-is is = record {
      some = let b = cycles in omega (arith, b, is.some);
      starts = start-alike net good (step_at lasso 0) (step_at made 0)
          (made-alike 0 (omega (arith, is.some))) is.starts;
      right = λ i lt. let few : i < steps lasso = omega (arith, whole, lt) in
          right-alike net good (step_at lasso i) (step_at made i) (made-alike i few) (is.right i few);
      kept = λ i lt. let few : i < steps lasso = omega (arith, whole, lt) in
          true-alike net good net.constraints (step_at lasso i) (step_at made i) good.constraints
          (made-alike i few) (is.kept i few);
      goes = λ i lt. let few : suc i < steps lasso = omega (arith, whole, lt) in
          step-alike net good (step_at lasso i) (step_at lasso (suc i)) (step_at made i)
          (step_at made (suc i)) (made-alike i (omega (arith, few))) (made-alike (suc i) few)
          (is.goes i few);
      back =
          let P : ℕ → ℕ → Type 0 = λ x y. IsStep net (step_at made x) (step_at made y) in
          let Q : ℕ → Type 0 = λ x. P x (length made.stem) in
          let R : ℕ → Type 0 = P (steps lasso - 1) in
          let last : steps lasso - 1 ≡ steps made - 1 = omega (arith, whole) in
          subst Q last (subst R (sym stems)
          (step-alike net good (step_at lasso (steps lasso - 1)) (step_at lasso (length lasso.stem))
          (step_at made (steps lasso - 1)) (step_at made (length lasso.stem))
          (made-alike (steps lasso - 1) (omega (arith, is.some)))
          (made-alike (length lasso.stem) (omega (arith, is.some))) is.back));
      fair = λ j lt.
          let (k, below, here) = is.fair j lt in (
            k,
            (let b = cycles in omega (arith, b, below)),
            sym (fair-value j k lt below) ∙ here,
          );
    }
      where
        fair-value : (j k : ℕ) → j < length net.fairs → k < length lasso.cycle →
            literal_value (value_in lasso.cycle k) (literal_at net.fairs j) ≡ literal_value
            (value_in made.cycle k) (literal_at net.fairs j)
        fair-value j k lt below =
            value-same (value_in lasso.cycle k) (value_in made.cycle k) (literal_at net.fairs j)
            (value-alike lasso.cycle k below _ (good.fairs j lt))

    full : AreFull net (values.stem ++ values.cycle)
    unfolding values
    full k lt =
        let joined : values.stem ++ values.cycle ≡ map full_row (lasso.stem ++ lasso.cycle) =
        sym (map-append full_row lasso.stem lasso.cycle) in
        let many = length-map (lasso.stem ++ lasso.cycle) full_row in
        let few : k < length (lasso.stem ++ lasso.cycle) =
        omega (arith, many, ap length joined, lt) in
        ap (λ (l : List (List Bool)). length (row_at l k)) joined
        ∙ ap length (at-map full_row no_values [] (lasso.stem ++ lasso.cycle) k few)
        ∙ full-length (value_in (lasso.stem ++ lasso.cycle) k)

    first-is : 0 < length lasso.cycle →
        latch_row net (row_at (values.stem ++ values.cycle) 0) ≡ latches_of net (step_at lasso 0)
    unfolding values
    first-is some =
        let joined : values.stem ++ values.cycle ≡ map full_row (lasso.stem ++ lasso.cycle) =
        sym (map-append full_row lasso.stem lasso.cycle) in
        let many = length-append lasso.stem lasso.cycle in
        ap (λ (l : List (List Bool)). latch_row net (row_at l 0)) joined
        ∙ ap (latch_row net) (at-map full_row no_values [] (lasso.stem ++ lasso.cycle) 0
        (omega (arith, many, some)))
        ∙ full-latches (step_at lasso 0)

    gone-alike : 0 < length lasso.cycle → (i u : ℕ) → u < variables net →
        gone made i u ≡ gone lasso i u
    unfolding values
    gone-alike some i u few =
        elim (cases_lt i (length lasso.stem)) [
          | inl lt ↦
              let a = stems in
              ap (λ (v : Valuation). v u) (in-stem made i (omega (arith, a, lt)))
              ∙ sym (value-alike lasso.stem i lt u few)
              ∙ sym (ap (λ (v : Valuation). v u) (in-stem lasso i lt))
          | inr le ↦
              let a = stems in
              let k : ℕ = (i - length lasso.stem) % length lasso.cycle in
              let at : (i - length made.stem) % length made.cycle ≡ k =
              ap (λ x. (i - x) % length made.cycle) stems
              ∙ ap (λ x. (i - length lasso.stem) % x) cycles in
              ap (λ (v : Valuation). v u) (in-cycle made i (omega (arith, a, le))
              ∙ ap (value_in made.cycle) at)
              ∙ sym (value-alike lasso.cycle k (mod-lt (i - length lasso.stem) some) u few)
              ∙ sym (ap (λ (v : Valuation). v u) (in-cycle lasso i le))
        ]

    is-run : (run : Run) → IsRunOf net lasso run → IsLassoExecution net lasso →
        IsExecutionOf net run values
    unfolding values
    is-run run of is = record {
      full = full;
      first = first-is is.some ∙ sym of.first;
      stem = stem-is ∙ sym of.stem;
      cycle = cycle-is ∙ sym of.cycle;
      execution = made-is is;
    }
      where
        stem-is : map (input_row net) values.stem ≡ map (inputs_of net) lasso.stem
        stem-is = rows-inputs lasso.stem

        cycle-is : map (input_row net) values.cycle ≡ map (inputs_of net) lasso.cycle
        cycle-is = rows-inputs lasso.cycle

pub run-execution : (net : Net) (lasso : Lasso) (run : Run) → IsNet net →
    IsLassoExecution net lasso → IsRunOf net lasso run → (made : ValueLasso)
    × IsExecutionOf net run made
    × ((i u : ℕ) → u < variables net → gone (valuations made) i u ≡ gone lasso i u)
run-execution net lasso run good is of =
    (values net good lasso, is-run net good lasso run of is, gone-alike net good lasso is.some)
