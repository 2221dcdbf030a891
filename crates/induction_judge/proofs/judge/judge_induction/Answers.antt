use Rattle.std.proofs.Common.{◌≡◌, true, false, []}
use Rattle.std.proofs.lemmas.Result.{err_from_is_err_and}
use Rattle.induction_judge.proofs.Walking.{cut_line}
use Rattle.induction_judge.proofs.Whole.{judged_whole, kind_body, kind_says}
use Rattle.induction_judge.proofs.judge.judge_induction.Goals as goal

pub returns-in_default-induction_head-clause-judged :
    goal.returns-in_default-induction_head-clause-judged
returns-in_default-induction_head-clause-judged c = λ lines proof parts said. (
  λ (yes : false ≡ true). absurd (cc),
  λ good.
      absurd (c.in_default-induction_head.ensures.said said.0 _ _
      (kind_says c.args.text.now c.in-Some.rest.now c.split_line.result.0.now lines proof
      (cut_line c.split_line.ensures.lines c.in-Some.is) parts said)),
)

pub returns-in_err-left-clause-refused : goal.returns-in_err-left-clause-refused
returns-in_err-left-clause-refused c =
    let p = err_from_is_err_and c.from_residual.result c.from_residual.ensures.1 in
    rw (p.1, p.2) (λ lines proof parts said.
    c.in_err-left.ensures.refused proof []
    (kind_body c.args.text.now c.in-Some.rest.now c.split_line.result.0.now lines proof
    (cut_line c.split_line.ensures.lines c.in-Some.is) parts said c.in-Some-induction_head.clauses c.in-Some-induction_head.depth
    c.in-Some-induction_head.count c.in-Some-induction_head.ensures.said))

pub returns-clause-judged : goal.returns-clause-judged
returns-clause-judged c = λ lines proof parts said.
    judged_whole c.args.safe.now proof c.in_ok-left.left c.is_some.result c.is_some.ensures
    (c.in_ok-left.ensures.judged proof []
    (kind_body c.args.text.now c.in-Some.rest.now c.split_line.result.0.now lines proof
    (cut_line c.split_line.ensures.lines c.in-Some.is) parts said c.in-Some-induction_head.clauses c.in-Some-induction_head.depth
    c.in-Some-induction_head.count c.in-Some-induction_head.ensures.said))
