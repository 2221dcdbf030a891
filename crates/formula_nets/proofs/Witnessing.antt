-- The runs for which a path of the safe net of a formula stands, and what is seen of them.
use Rattle.std.proofs.Common.{◌≡◌, ℕ, ◌+◌, ◌<◌, List, [], ◌∷◌, ◌++◌, length, take, get_or, inl, inr, refl, sym, ap, ◌∙◌, subst, arith, length-append}
use Rattle.std.proofs.lemmas.Bool.{cases_lt}
use Rattle.std.proofs.lemmas.List.{get_or_append_left, get_or-append-add, take_more}
use Rattle.hy_bits.specs.Letter.{Letter}
use Rattle.hy_formula.specs.Lassos as letters
use Rattle.hy_formula.specs.Normals.{Signed}
use Rattle.hy_formula.specs.Trees.{Tree}
use Rattle.hy_formula.specs.declared.prefix.Quant.{Quant}
use Rattle.hy_lasso.specs.Words as words
use Rattle.hy_lasso.specs.Words.{no_lasso}
use Rattle.aig_net.specs.declared.run.Run.{Run}
use Rattle.aig_net.specs.declared.run.ValueLasso.{ValueLasso}
use Rattle.aig_net.specs.declared.signals.Signal.{Signal}
use Rattle.aig_net.specs.Nets.{IsNet, Net}
use Rattle.aig_net.specs.Simulations.{IsExecutionOf}
use Rattle.live_safe.specs.declared.safe_net.Path.{Path}
use Rattle.live_safe.specs.declared.safe_net.SafeNet.{SafeNet}
use Rattle.live_safe.specs.Paths.{IsBadPath}
use Rattle.wit_lasso.specs.FormulaNets.{formula_tableau}
use Rattle.wit_lasso.specs.Seeing.{IsTraceOf}
use Rattle.wit_lasso.specs.Unfoldings.{AreUnfolded, GoesToBad, IsSafeOf, IsUnfolding, no_run, run_at}
use Rattle.aig_net.proofs.LassoRuns.{run-execution}
use Rattle.formula_nets.specs.Posed.{checked_safe, is_existential}
use Rattle.formula_nets.specs.Witnesses.{AreTraces, AreWitnesses}

-- ---- the runs of a path

pub safe-of : (net : Net) (signals : List Signal) (prefix : List Quant) (body : Tree)
    (safe : SafeNet) → safe ≡ checked_safe net signals prefix body →
    IsSafeOf net (length prefix) safe
safe-of net signals prefix body _ e =
    (formula_tableau signals (length prefix) body (is_existential prefix), e)

module _ (net : Net) (good : IsNet net) (signals : List Signal) (prefix : List Quant) (body : Tree)
    (safe : SafeNet) (is : safe ≡ checked_safe net signals prefix body) (path : Path)
    (answer : GoesToBad safe path) (runs : List Run)
    (unfolding-is : IsUnfolding net (length prefix) safe path runs) where
  abbrev n' : ℕ
  n' = length prefix

  unfolded-runs : AreUnfolded net n' (formula_tableau signals n' body (is_existential prefix))
      (length path.inputs) answer.0 runs
  unfolded-runs =
      let (word, shows, bad) = answer in
      unfolding-is (formula_tableau signals n' body (is_existential prefix)) word is shows bad

  pub runs-execute : (c : ℕ) → c < length runs →
      (values : ValueLasso) × IsExecutionOf net (run_at runs c) values
  runs-execute c lt =
      let u = unfolded-runs in
      let few : c < n' = let m = u.many in omega (arith, m, lt) in
      let (values, of, _) = run-execution net _ (run_at runs c) good (u.executions c few)
      (u.runs_are c few) in
      (values, of)

  pub runs-witness : (traces : List (letters.Lasso Letter)) → AreTraces net signals runs traces →
      (((c : ℕ) → c < n' → IsTraceOf net signals (run_at runs c) (get_or traces c no_lasso)) →
      IsBadPath (checked_safe net signals prefix body) (length path.inputs) answer.0 →
      AreUnfolded net n' (formula_tableau signals n' body (is_existential prefix))
      (length path.inputs) answer.0 runs → length traces ≡ n' →
      Signed (is_existential prefix) (words.Meets body traces)) →
      AreWitnesses net signals n' body (is_existential prefix) traces runs
  runs-witness traces are say =
      let u = unfolded-runs in
      let m = u.many in
      let P : SafeNet → Type 0 = λ s. IsBadPath s (length path.inputs) answer.0 in
      let each : (c : ℕ) → c < n' →
      IsTraceOf net signals (run_at runs c) (get_or traces c no_lasso) =
      λ c lt. are.each c (omega (arith, m, lt)) in
      record {
        many_runs = m;
        many_traces = are.many ∙ m;
        each = each;
        says = say each (subst P is answer.2) u (are.many ∙ m);
      }

-- ---- traces, one more

pub traces_none : (net : Net) (signals : List Signal) (runs : List Run) →
    AreTraces net signals (take 0 runs) []
traces_none net signals runs = record {
  many = none runs;
  each = λ c lt. absurd
      (let e = none runs in omega (arith, e, lt));
}
  where
    none : (runs : List Run) → 0 ≡ length (take 0 runs)
    none [] = refl
    none (r ∷ runs) = refl

pub traces_more : (net : Net) (signals : List Signal) (runs : List Run) (i : ℕ)
    (traces more : List (letters.Lasso Letter)) (run : Run) (trace : letters.Lasso Letter) →
    i < length runs → run ≡ get_or runs i run → IsTraceOf net signals run trace →
    AreTraces net signals (take i runs) traces → more ≡ traces ++ trace ∷ [] →
    AreTraces net signals (take (i + 1) runs) more
traces_more net signals runs i traces more run trace lt at is are added =
    let P : List Run → Type 0 = λ r. AreTraces net signals r more in
    let Q : List (letters.Lasso Letter) → Type 0 = AreTraces net signals (take i runs ++ run ∷ []) in
    let T : Run → letters.Lasso Letter → Type 0 = IsTraceOf net signals in
    let a = length-append (take i runs) (run ∷ []) in
    let b = length-append traces (trace ∷ []) in
    let m = are.many in
    let whole : take (i + 1) runs ≡ take i runs ++ run ∷ [] =
    take_more runs i run lt ∙ ap (λ x. take i runs ++ x ∷ []) (sym at) in
    subst P (sym whole) (subst Q (sym added) (record {
      many = omega (arith, a, b, m);
      each = λ c less.
          elim (cases_lt c (length (take i runs))) [
            | inl small ↦
                let R : Run → Type 0 = λ r. T r (get_or (traces ++ trace ∷ []) c no_lasso) in
                let S : letters.Lasso Letter → Type 0 = T (run_at (take i runs) c) in
                subst R (sym (get_or_append_left (take i runs) (run ∷ []) no_run c small))
                (subst S (sym (get_or_append_left traces (trace ∷ []) no_lasso c
                (omega (arith, m, small)))) (are.each c small))
            | inr past ↦
                let e : length (take i runs) + 0 ≡ c = omega (arith, a, less, past) in
                let h : length traces + 0 ≡ c = omega (arith, e, m) in
                let R : Run → Type 0 = λ r. T r (get_or (traces ++ trace ∷ []) c no_lasso) in
                let S : letters.Lasso Letter → Type 0 = T run in
                subst R (sym (get_or-append-add (take i runs) (run ∷ []) 0 no_run)
                ∙ ap (run_at (take i runs ++ run ∷ [])) e)
                (subst S (sym (get_or-append-add traces (trace ∷ []) 0 no_lasso)
                ∙ ap (λ c. get_or (traces ++ trace ∷ []) c no_lasso) h) is)
          ];
    }))
