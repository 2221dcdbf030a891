use Rattle.std.proofs.lemmas.Result.{IfOk-weaker}
use Rattle.induction_judge.specs.Reading.{AreClausesJudged, IsLogJudged}
use Rattle.induction_judge.proofs.Walking.{cut_line}
use Rattle.induction_judge.proofs.Ending.{log_judged, no_count}
use Rattle.induction_judge.proofs.logs.past_log.Goals as goal

pub returns-in_default-log_head-clause-judged : goal.returns-in_default-log_head-clause-judged
returns-in_default-log_head-clause-judged c = λ log rest at refutes.
    no_count c.args.text.now c.in-Some.rest.now c.split_line.result.0.now log rest
    (cut_line c.split_line.ensures.lines c.in-Some.is) c.in_default-log_head.ensures at

pub returns-clause-judged : goal.returns-clause-judged
returns-clause-judged c =
    IfOk-weaker c.past_clauses.result
    (AreClausesJudged c.args.checker.now.variables c.args.checker.now.clauses c.in-Some.rest.now
    c.in-Some-log_head.count)
    (IsLogJudged c.args.checker.now.variables c.args.checker.now.clauses c.args.text.now)
    (log_judged c.args.checker.now.variables c.args.checker.now.clauses c.args.text.now
    c.in-Some.rest.now c.split_line.result.0.now c.in-Some-log_head.count
    (cut_line c.split_line.ensures.lines c.in-Some.is) c.in-Some-log_head.ensures)
    c.past_clauses.ensures.judged
