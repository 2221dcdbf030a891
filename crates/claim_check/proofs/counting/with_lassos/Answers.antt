use Rattle.std.proofs.lemmas.Result.{err_from_is_err_and}
use Rattle.ea_reduce.specs.Plans.{plain_plan}
use Rattle.claim_check.proofs.Counted.{closure_stops_plan, lassos_stop_plan}
use Rattle.claim_check.proofs.counting.with_lassos.Goals as goal

pub returns-in_err-made-clause-stopped : goal.returns-in_err-made-clause-stopped
returns-in_err-made-clause-stopped c =
    let p = err_from_is_err_and c.from_residual.result c.from_residual.ensures.1 in
    rw (p.1, p.2)
    (closure_stops_plan (plain_plan c.args.plan) c.args.list.now c.in_err-made.field-0.0
    c.in_err-made.ensures.refused)

pub returns-then-not-are_judged-clause-stopped : goal.returns-then-not-are_judged-clause-stopped
returns-then-not-are_judged-clause-stopped c =
    rw c.joint.ensures
    (lassos_stop_plan (plain_plan c.args.plan) c.args.list.now c.are_judged.result
    c.in_ok-made.ensures.few c.are_judged.ensures c.if-not-are_judged.true)
