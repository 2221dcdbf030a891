-- Traces of runs decide a formula whose quantifiers are all of one kind, however they were found.
use Rattle.std.proofs.Common.{◌≡◌, ℕ, ◌+◌, ◌<◌, List, get_or, IsTrue, sym, ap, ◌∙◌, subst, arith}
use Rattle.std.proofs.Math.Path.{fun_ext}
use Rattle.hy_bits.specs.Letter.{Letter}
use Rattle.hy_formula.specs.Lassos as letters
use Rattle.hy_formula.specs.Quantifiers.{IsTuple, repeated}
use Rattle.hy_formula.specs.Trees.{Tree, vars_below}
use Rattle.hy_formula.specs.declared.prefix.Quant.TheVariants.{Exists, Forall}
use Rattle.hy_formula.proofs.Tuples.{every-tuple, some-tuple}
use Rattle.hy_lasso.specs.Words as words
use Rattle.hy_lasso.specs.Words.{lasso_words, no_lasso}
use Rattle.aig_net.specs.declared.run.Run.{Run}
use Rattle.aig_net.specs.declared.signals.Signal.{Signal}
use Rattle.aig_net.specs.Nets.{Net}
use Rattle.aig_net.specs.Simulations.{valuations}
use Rattle.hy_base.specs.Rows.{listed}
use Rattle.hy_base.proofs.Listed.{at-listed, length-listed}
use Rattle.wit_lasso.specs.Satisfaction.{IsVisible, Meets, Satisfies, Trace, no_trace, trace_words}
use Rattle.wit_lasso.specs.Seeing.{IsTraceOf}
use Rattle.wit_lasso.specs.Unfoldings.{run_at}
use Rattle.wit_lasso.proofs.Bodies.{body-same}
use Rattle.wit_lasso.proofs.Checking.{at-each}

module _ (net : Net) (signals : List Signal) (n : ℕ) (body : Tree) (some : 0 < n)
    (small : IsTrue (vars_below n body)) (runs : List Run) (traces : List (letters.Lasso Letter))
    (each : (c : ℕ) → c < n → IsTraceOf net signals (run_at runs c) (get_or traces c no_lasso)) where
  abbrev seen : ℕ → Trace
  seen c name i = lasso_words traces name c i

  seen-is : (c : ℕ) → c < n → IsVisible net signals (seen c)
  seen-is c lt =
      let e = each c lt in
      record {
        lasso = valuations e.values;
        execution = e.execution.execution;
        seen = fun_ext (λ name. fun_ext (λ i. e.shows i name));
      }

  abbrev tuple : List Trace
  tuple = listed 0 n seen

  tuple-at : (c : ℕ) → c < n → get_or tuple c no_trace ≡ seen c
  tuple-at c lt = let plain : 0 + c ≡ c = omega arith in
      at-listed 0 n seen no_trace c lt ∙ ap seen plain

  tuple-is : IsTuple (IsVisible net signals) n tuple
  tuple-is = record {
    count = length-listed 0 n seen;
    members = at-each (IsVisible net signals) tuple no_trace
        (λ c lt.
        let many = length-listed 0 n seen in
        let few : c < n = omega (arith, many, lt) in
        let P : Trace → Type 0 = IsVisible net signals in
        subst P (sym (tuple-at c few)) (seen-is c few));
  }

  agree : (a v i : ℕ) → v < n → trace_words tuple a v i ≡ lasso_words traces a v i
  agree a v i lt = ap (λ (x : Trace). x a i) (tuple-at v lt)

  pub show-some : words.Meets body traces → Satisfies net signals (repeated Exists n) body
  show-some meets = (some-tuple (IsVisible net signals) (Meets body) n).1 (
    tuple,
    tuple-is,
    body-same n some (lasso_words traces) (trace_words tuple) (λ a v i lt. sym (agree a v i lt)) body
        small 0 meets,
  )

  pub refute-all : (¬ words.Meets body traces) → ¬ Satisfies net signals (repeated Forall n) body
  refute-all fails holds =
      fails (body-same n some (trace_words tuple) (lasso_words traces) agree body small 0
      ((every-tuple (IsVisible net signals) (Meets body) n).0 holds tuple tuple-is))
