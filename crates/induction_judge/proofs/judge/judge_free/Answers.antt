use Rattle.std.proofs.Common.{true, ap, List, ◌++◌, arith}
use Rattle.std.specs.Option.{option_copied}
use Rattle.std.proofs.lemmas.Result.{IfOk-weaker, IfErr-weaker}
use Rattle.hy_text.specs.Lines.{left_len}
use Rattle.cnf_frames.specs.declared.inductions.InductionProof.{InductionProof}
use Rattle.cert_text.specs.Lines.{Line}
use Rattle.cert_text.specs.InductionLines.{SayFreeProof}
use Rattle.induction_judge.specs.Judged.{IsBody}
use Rattle.induction_judge.specs.Reading.{AreLines}
use Rattle.induction_judge.proofs.Walking.{cut_line}
use Rattle.induction_judge.proofs.Whole.{free_body, free_says, no_longer}
use Rattle.induction_judge.proofs.judge.judge_free.Goals as goal

pub returns-in_default-free_head-clause-judged : goal.returns-in_default-free_head-clause-judged
returns-in_default-free_head-clause-judged c = λ proof front rest parts said good.
    c.in_default-free_head.ensures.said _ _
    (free_says c.args.text.now c.in-Some.rest.now c.split_line.result.0.now front rest proof
    (cut_line c.split_line.ensures.lines c.in-Some.is) parts said)

pub returns : goal.returns
returns c =
    let body : (proof : InductionProof) (front rest : List Line)
    → AreLines c.args.text.now (front ++ rest) → SayFreeProof front proof
    → IsBody true c.in-Some.rest.now c.in-Some-free_head.depth c.in-Some-free_head.count proof rest =
    λ proof front rest parts said.
    free_body c.args.text.now c.in-Some.rest.now c.split_line.result.0.now front rest proof
    (cut_line c.split_line.ensures.lines c.in-Some.is) parts said c.in-Some-free_head.depth
    c.in-Some-free_head.count c.in-Some-free_head.ensures.said in
    let shorter = ap (λ o. left_len (option_copied o)) c.in-Some.is in
    record {
      judged =
          IfOk-weaker c.past_body.result _ _ (λ left judges proof front rest parts said.
          judges proof rest (body proof front rest parts said)) c.past_body.ensures.judged;
      refused =
          IfErr-weaker c.past_body.result _ _ (λ e refuses proof front rest parts said.
          refuses proof rest (body proof front rest parts said)) c.past_body.ensures.refused;
      shorter =
          IfOk-weaker c.past_body.result _ _ (λ left.
          no_longer left c.in-Some.rest.now c.args.text.now
          (omega (arith, shorter, c.split_line.ensures.fewer)))
          c.past_body.ensures.shorter;
    }
