-- A net has one run on inputs from first latches.
use Rattle.std.proofs.Common.{◌≡◌, ℕ, zero, suc, ◌+◌, ◌-◌, ◌/◌, ◌<◌, ◌≤◌, Bool, false, cond, nat_lt, length, inl, inr, refl, sym, ap, ◌∙◌, arith}
use Rattle.std.proofs.lemmas.Bool.{cases_lt}
use Rattle.hy_base.proofs.Truths.{cond-below, cond-above}
use Rattle.aig_net.specs.Nets.{Net, Valuation, IsNet, first_and, latch_variable, literal_at, literal_value, variables}
use Rattle.aig_net.specs.Executions.{Word}
use Rattle.aig_net.proofs.Literals.{value-same}
use Rattle.aig_net.proofs.Valuations.{filled, filled-behind, valuation-given, valuation-only, valuation-right}
use Rattle.aig_net.specs.Running.{AreGivenAlike, IsRunOn, Obeys}

-- ---- some

-- inputs and latches by their values, and nothing behind them
abbrev begun : Net → (ℕ → Bool) → (ℕ → Bool) → Valuation
begun net inputs latches zero = false
begun net inputs latches (suc u) =
    cond (nat_lt u net.inputs) (inputs u)
    (cond (nat_lt u (net.inputs + length net.latches)) (latches (u - net.inputs)) false)

-- the valuation with right gates that begins so
abbrev settled : Net → (ℕ → Bool) → (ℕ → Bool) → Valuation
settled net inputs latches = filled (first_and net) net.ands (begun net inputs latches)

-- the latches at each position
abbrev latches_at : Net → (ℕ → ℕ → Bool) → (ℕ → Bool) → ℕ → ℕ → Bool
latches_at net inputs latches zero = latches
latches_at net inputs latches (suc i) =
    λ j. literal_value (settled net (inputs i) (latches_at net inputs latches i))
    (literal_at net.latches j)

abbrev run : Net → (ℕ → ℕ → Bool) → (ℕ → Bool) → Word
run net inputs latches i = settled net (inputs i) (latches_at net inputs latches i)

module _ (net : Net) (inputs latches : ℕ → Bool) where
  settled-input : (j : ℕ) → j < net.inputs → settled net inputs latches (suc j) ≡ inputs j
  settled-input j lt =
      valuation-given net (begun net inputs latches) (suc j) (omega arith)
      ∙ cond-below j net.inputs (inputs j) _ lt

  settled-latch : (j : ℕ) → j < length net.latches →
      settled net inputs latches (latch_variable net j) ≡ latches j
  settled-latch j lt =
      let u : ℕ = net.inputs + j in
      let back : u - net.inputs ≡ j = omega arith in
      valuation-given net (begun net inputs latches) (suc u) (omega arith)
      ∙ cond-above u net.inputs (inputs u) _ (omega arith)
      ∙ cond-below u (net.inputs + length net.latches) (latches (u - net.inputs)) false
      (omega arith) ∙ ap latches back

  settled-behind : (u : ℕ) → variables net ≤ u → settled net inputs latches u ≡ false
  settled-behind u le =
      filled-behind (first_and net) net.ands (begun net inputs latches) u le ∙ none u (omega arith)
    where
      none : (u : ℕ) → first_and net ≤ u → begun net inputs latches u ≡ false
      none zero le = refl
      none (suc u) le = cond-above u net.inputs (inputs u) _ (omega arith)
          ∙ cond-above u (net.inputs + length net.latches) (latches (u - net.inputs)) false
          (omega arith)

pub some-run : (net : Net) (inputs : ℕ → ℕ → Bool) (latches : ℕ → Bool) → IsNet net →
    (word : Word) × IsRunOn net inputs latches word
some-run net inputs latches good = (
  run net inputs latches,
  record {
    obeys = record {
      right = λ i. valuation-right net (begun net (inputs i) (latches_at net inputs latches i))
          good.ordered refl;
      goes = λ i. settled-latch net (inputs (suc i)) (latches_at net inputs latches (suc i));
    };
    given = λ i. settled-input net (inputs i) (latches_at net inputs latches i);
    first = settled-latch net (inputs 0) latches;
    rest = λ i. settled-behind net (inputs i) (latches_at net inputs latches i);
  },
)

-- ---- only

-- Two words that are given the same, as far as the variables go.
pub one-run : (net : Net) (v w : Word) → IsNet net → Obeys net v → Obeys net w →
    AreGivenAlike net v w → (i u : ℕ) → u < variables net → v i u ≡ w i u
one-run net v w good obeys obeys' alike = same
  where
    -- where the latches agree
    from-latches : (i : ℕ) → ((j : ℕ) → j < length net.latches →
        v i (latch_variable net j) ≡ w i (latch_variable net j)) →
        (u : ℕ) → u < variables net → v i u ≡ w i u
    from-latches i latches = valuation-only net (v i) (w i) good.ordered (obeys.right i)
        (obeys'.right i) begin
      where
        begin : (u : ℕ) → u < first_and net → v i u ≡ w i u
        begin zero lt = (obeys.right i).constant ∙ sym (obeys'.right i).constant
        begin (suc u) lt =
            elim (cases_lt u net.inputs) [
              | inl few ↦ alike.inputs i u few
              | inr le ↦
                  let at : latch_variable net (u - net.inputs) ≡ suc u = omega arith in
                  ap (v i) (sym at) ∙ latches (u - net.inputs) (omega arith) ∙ ap (w i) at
            ]

    same : (i u : ℕ) → u < variables net → v i u ≡ w i u
    same zero = from-latches zero alike.first
    same (suc i) = from-latches (suc i) (λ j few.
        let l : ℕ = literal_at net.latches j in
        obeys.goes i j few ∙ value-same (v i) (w i) l (same i (l / 2) (good.latches j few))
        ∙ sym (obeys'.goes i j few))
