-- What is seen of a run is one lasso in normal form.
use Rattle.std.proofs.Common.{◌≡◌, ◌↔◌, ℕ, ◌<◌, Bool, List, length, sym, ◌∙◌, subst}
use Rattle.std.specs.Prelude.{IsTrue}
use Rattle.hy_bits.specs.BinaryLaws.{same_members}
use Rattle.hy_bits.specs.Letter.{Letter}
use Rattle.hy_formula.specs.Lassos as letters
use Rattle.hy_lasso.specs.NormalForms.{IsNormal}
use Rattle.hy_lasso.specs.Words.{letter_at}
use Rattle.hy_lasso.proofs.OneForm.{one-form}
use Rattle.aig_net.specs.declared.run.Run.{Run}
use Rattle.aig_net.specs.declared.run.ValueLasso.{ValueLasso}
use Rattle.aig_net.specs.declared.signals.Signal.{Signal}
use Rattle.aig_net.specs.Executions.{Word, gone}
use Rattle.aig_net.specs.Nets.{Net}
use Rattle.aig_net.specs.Simulations.{IsExecutionOf, valuations}
use Rattle.wit_lasso.specs.Seeing.{IsTraceOf, ShowsTrace}

one-shown : (signals : List Signal) (word : Word) (a b : letters.Lasso Letter)
    → 0 < length a.cycle → 0 < length b.cycle → IsNormal a → IsNormal b
    → ShowsTrace signals word a → ShowsTrace signals word b → a ≡ b
one-shown signals word a b some more normal also shows too =
    one-form a b some more normal also
    (λ i. same_members (letter_at a i) (letter_at b i) (λ name. shows i name ∙ sym (too i name)))

module _ (net : Net) (signals : List Signal) (run : Run) (trace : letters.Lasso Letter) where
  -- The values are those of the run, and the lasso is seen of them.
  pub seen_trace : (values : ValueLasso) (seen : letters.Lasso Letter) (same : Bool)
      → ((a b : ValueLasso) → IsExecutionOf net run a → IsExecutionOf net run b → a ≡ b)
      → IsExecutionOf net run values → 0 < length trace.cycle → 0 < length seen.cycle
      → IsNormal seen → ShowsTrace signals (gone (valuations values)) seen
      → IsTrue same ↔ (seen ≡ trace) → IsTrue same ↔ IsTraceOf net signals run trace
  seen_trace values seen same once is more some normal shows equal = (
    λ yes.
        let P : letters.Lasso Letter → Type 0 = IsTraceOf net signals run in
        subst P (equal.0 yes)
        (record { values = values; execution = is; normal = normal; shows = shows }),
    λ of. equal.1
        (let V : ValueLasso → Type 0 = λ v. ShowsTrace signals (gone (valuations v)) trace in
        let one : of.values ≡ values = once of.values values of.execution is in
        one-shown signals (gone (valuations values)) seen trace some more normal of.normal shows
        (subst V one of.shows)),
  )

  pub no_trace : ((values : ValueLasso) → ¬ IsExecutionOf net run values)
      → ¬ IsTraceOf net signals run trace
  no_trace none of = none of.values of.execution
