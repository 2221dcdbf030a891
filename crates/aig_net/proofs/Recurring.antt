-- The run on inputs that recur recurs: among more than 2 ^ n rows of n latches two are alike.
use Rattle.std.proofs.Common.{◌≡◌, ℕ, suc, ◌+◌, ◌-◌, ◌*◌, ◌<◌, ◌≤◌, Bool, length, inl, inr, sym, ap, ◌∙◌, subst, arith}
use Rattle.std.proofs.Math.Nat.{mul-pos}
use Rattle.std.proofs.lemmas.Bool.{cases_lt}
use Rattle.hy_base.proofs.RowNumbers.{two-rows}
use Rattle.aig_net.specs.Nets.{Net, Valuation, IsNet, IsStep, latch_variable, variables}
use Rattle.aig_net.specs.Executions.{Recurs, Word}
use Rattle.aig_net.proofs.Rounds.{recurs-often}
use Rattle.aig_net.specs.Running.{AreGivenAlike, IsRunOn, Obeys}
use Rattle.aig_net.proofs.Running.{one-run}

-- the word from t on
abbrev from_on : ℕ → Word → Word
from_on t word i = word (t + i)

onward : (net : Net) (t : ℕ) (word : Word) → Obeys net word → Obeys net (from_on t word)
onward net t word obeys = record {
  right = λ i. obeys.right (t + i);
  goes = λ i.
      let P : Valuation → Type 0 = IsStep net (word (t + i)) in
      let next : suc (t + i) ≡ t + suc i = omega arith in
      subst P (ap word next) (obeys.goes (t + i));
}

module _ (net : Net) (inputs : ℕ → ℕ → Bool) (latches : ℕ → Bool) (word : Word) (good : IsNet net)
    (is : IsRunOn net inputs latches word) where
  -- Where the inputs recur, and the latches come again after the period, all recurs.
  comes-again : (t d : ℕ) → Recurs inputs t d → ((j : ℕ) → j < length net.latches →
      word (t + d) (latch_variable net j) ≡ word t (latch_variable net j)) → Recurs word t d
  comes-again t d again back = record { some = again.some; same = same }
    where
      alike : AreGivenAlike net (from_on (t + d) word) (from_on t word)
      alike = record {
        inputs = λ i j few.
            let at : t + d + i ≡ t + i + d = omega arith in
            is.given (t + d + i) j few ∙ ap (λ x. inputs x j) at
            ∙ again.same (t + i) j (omega arith) ∙ sym (is.given (t + i) j few);
        first = λ j few.
            let here : t + d + 0 ≡ t + d = omega arith in
            let here' : t ≡ t + 0 = omega arith in
            let u : ℕ = latch_variable net j in
            ap (λ x. word x u) here ∙ back j few ∙ ap (λ x. word x u) here';
      }

      same : (i u : ℕ) → t ≤ i → word (i + d) u ≡ word i u
      same i u le =
          elim (cases_lt u (variables net)) [
            | inl lt ↦
                let there : i + d ≡ t + d + (i - t) = omega arith in
                let here : t + (i - t) ≡ i = omega arith in
                ap (λ x. word x u) there
                ∙ one-run net (from_on (t + d) word) (from_on t word) good
                (onward net (t + d) word is.obeys) (onward net t word is.obeys) alike (i - t) u lt
                ∙ ap (λ x. word x u) here
            | inr behind ↦ is.rest (i + d) u behind ∙ sym (is.rest i u behind)
          ]

  pub run-recurs : (s p : ℕ) → Recurs inputs s p →
      (t : ℕ) × (k : ℕ) × (s ≤ t) × Recurs word t (k * p)
  run-recurs s p repeats =
      let (k, l, lt, _, e) = two-rows (length net.latches)
      (λ k j. word (s + k * p) (latch_variable net j)) in
      let more : k + (l - k) ≡ l = omega arith in
      let on : s + l * p ≡ s + k * p + (l - k) * p =
      omega (arith, ap (λ x. x * p) (sym more)) in
      let far : 0 < l - k = omega arith in (
        s + k * p,
        l - k,
        omega arith,
        comes-again (s + k * p) ((l - k) * p) record {
          some = mul-pos far repeats.some;
          same = λ i j le. recurs-often inputs s p repeats (l - k) i j (omega arith);
        } (λ j few. ap (λ x. word x (latch_variable net j)) (sym on)
            ∙ sym (e j few)),
      )
