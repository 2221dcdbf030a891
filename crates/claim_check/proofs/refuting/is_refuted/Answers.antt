use Rattle.std.proofs.Common.{[]}
use Rattle.std.proofs.lemmas.Result.{err_from_is_err_and}
use Rattle.ea_reduce.specs.Plans.{plain_plan}
use Rattle.claim_check.proofs.Refuted.{nothing_behind, whole_found}
use Rattle.claim_check.proofs.refuting.is_refuted.Goals as goal

pub returns-in_err-left : goal.returns-in_err-left
returns-in_err-left c proof lines ended said =
    let p = err_from_is_err_and c.from_residual.result c.from_residual.ensures.1 in
    rw (p.1, p.2)
    (c.in_err-left.ensures.passed proof lines [] (nothing_behind c.args.text.now lines ended) said)

pub returns : goal.returns
returns c proof lines ended said =
    whole_found (plain_plan c.args.planned.now.plan) proof c.in_ok-left.left c.is_some.result
    c.is_some.ensures
    (c.in_ok-left.ensures.passed proof lines [] (nothing_behind c.args.text.now lines ended) said)
