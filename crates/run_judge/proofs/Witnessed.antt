-- Runs in a text that are witnesses, and those that are none.
use Rattle.std.proofs.Common.{◌≡◌, ◌↔◌, ℕ, Bool, true, false, List, [], ◌∷◌, ◌++◌, length, sym, ◌∙◌, ap, subst, arith, Result, Ok, Err, IfOk}
use Rattle.std.specs.Prelude.{IsTrue}
use Rattle.std.proofs.lemmas.List.{append_cancel_right}
use Rattle.hy_bits.specs.Letter.{Letter}
use Rattle.hy_formula.specs.Lassos.{Lasso}
use Rattle.hy_formula.specs.Normals.{Signed}
use Rattle.hy_formula.specs.Trees.{Tree}
use Rattle.hy_lasso.specs.Words.{Meets}
use Rattle.hy_text.specs.Lines.{lines_of}
use Rattle.aig_net.specs.declared.run.Run.{Run}
use Rattle.aig_net.specs.declared.signals.Signal.{Signal}
use Rattle.aig_net.specs.Nets.{Net}
use Rattle.formula_nets.specs.Witnesses.{AreWitnesses}
use Rattle.cert_text.specs.Lines.{Line, Say}
use Rattle.cert_text.specs.RunLines.{SayRuns}
use Rattle.cert_text.proofs.Lists.{tails}
use Rattle.run_judge.specs.Traced.{SaysTraced, SayTraced}
use Rattle.run_judge.proofs.TracedLines.{traced_long, traced_at, traced_each}

module _ (net : Net) (signals : List Signal) (n : ℕ) (body : Tree) (positive : Bool)
    (traces : List (Lasso Letter)) (text : List ℕ) where
  -- The runs of each reading are witnesses, or are none.
  abbrev pub IsJudgement : Bool → Type 0
  IsJudgement good =
      (lines : List Line) (runs : List Run) → lines_of text ≡ lines ++ [] ∷ []
      → SayRuns lines runs
      → IsTrue good ↔ AreWitnesses net signals n body positive traces runs

  behind-head : (head : Line) (lines behind : List Line) (runs : List Run)
      → lines_of text ≡ head ∷ behind → lines_of text ≡ lines ++ [] ∷ []
      → (said : SayRuns lines runs) → behind ≡ said.rest ++ [] ∷ []
  behind-head head lines behind runs cut parts said =
      tails (sym cut ∙ parts ∙ ap (λ l. l ++ [] ∷ []) said.parts)

  -- The runs are those of the traces.
  traced_by : (head : Line) (rest : List ℕ) (lines : List Line) (runs : List Run)
      → lines_of text ≡ head ∷ lines_of rest → lines_of text ≡ lines ++ [] ∷ []
      → (said : SayRuns lines runs) → SayTraced net signals rest traces
      → Say (SaysTraced net signals) said.rest traces
  traced_by head rest lines runs cut parts said (own, ended, traced) =
      let e = sym ended ∙ behind-head head lines (lines_of rest) runs cut parts said in
      let P : List Line → Type 0 = λ l. Say (SaysTraced net signals) l traces in
      subst P (append_cancel_right own said.rest ([] ∷ []) e) traced

  -- Some line is no run of its trace, or the lines are not as many.
  pub untraced_judged : (head : Line) (rest : List ℕ) (slice : List (Lasso Letter)) (b : Bool)
      → lines_of text ≡ head ∷ lines_of rest → length traces ≡ n → slice ≡ traces
      → IsTrue b ↔ SayTraced net signals rest slice → b ≡ false → IsJudgement false
  untraced_judged head rest slice b cut many whole is none lines runs parts said = (
    λ (yes : false ≡ true). absurd (cc),
    λ are.
        let P : List (Lasso Letter) → Type 0 = SayTraced net signals rest in
        let own : P traces = (
          said.rest,
          behind-head head lines (lines_of rest) runs cut parts said,
          traced_each net signals said.rest runs traces said.each (are.many_runs ∙ sym many)
              (λ c lt. are.each c (let e = are.many_runs in omega (arith, e, lt))),
        ) in
        let clash : false ≡ true = sym none ∙ is.1 (subst P (sym whole) own) in
        absurd (cc),
  )

  -- Each line is, and what the traces say decides.
  pub traced_judged : {E : Type 0} (head : Line) (rest : List ℕ) (slice : List (Lasso Letter))
      (b : Bool) (r : Result Bool E) → lines_of text ≡ head ∷ lines_of rest → length traces ≡ n
      → slice ≡ traces → IsTrue b ↔ SayTraced net signals rest slice → b ≡ true
      → IfOk r (λ yes. IsTrue yes ↔ Signed positive (Meets body traces)) → IfOk r IsJudgement
  traced_judged head rest slice b (Ok good) cut many whole is all says = judged
    where
      judged : IsJudgement good
      judged lines runs parts said =
          let P : List (Lasso Letter) → Type 0 = SayTraced net signals rest in
          let own = traced_by head rest lines runs cut parts said (subst P whole (is.0 all)) in
          let long = traced_long net signals said.rest runs traces said.each own in (
            λ yes. record {
              many_runs = long ∙ many;
              many_traces = many;
              each = λ c lt. traced_at net signals said.rest runs traces said.each own c
                  (omega (arith, long, many, lt));
              says = says.0 yes;
            },
            λ are. says.1 are.says,
          )
  traced_judged head rest slice b (Err e) cut many whole is all says = tt
