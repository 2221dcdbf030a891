use Rattle.std.proofs.lemmas.Result.{err_from_is_err_and}
use Rattle.ea_reduce.specs.Plans.{plain_plan}
use Rattle.free_net.specs.FreeNets as nets
use Rattle.claim_check.proofs.Refuted.{free_passed}
use Rattle.claim_check.proofs.WeighedCircuits.{frames_refused}
use Rattle.claim_check.proofs.refuting.past_free.Goals as goal

pub plan_safe-requires-clause-reduced : goal.plan_safe-requires-clause-reduced
plan_safe-requires-clause-reduced c =
    c.formulas_are_reduced.ensures (plain_plan c.args.planned.now.plan) c.requires.net.formulas

pub returns-in_err-left-clause-passed : goal.returns-in_err-left-clause-passed
returns-in_err-left-clause-passed c =
    let p = err_from_is_err_and c.from_residual-in_err-left.result
    c.from_residual-in_err-left.ensures.1 in
    rw (p.1, p.2) (λ proof front rest ended said.
    frames_refused c.in_ok-safe.safe (nets.plan_safe (plain_plan c.args.planned.now.plan)) proof
    c.in_err-left.field-0.0 c.in_ok-safe.ensures.made
    (c.in_err-left.ensures.refused proof front rest ended said))

pub returns-clause-passed : goal.returns-clause-passed
returns-clause-passed c proof front rest ended said =
    free_passed (plain_plan c.args.planned.now.plan) c.in_ok-safe.safe proof rest c.in_ok-left.left
    c.in_ok-safe.ensures.made (c.in_ok-left.ensures.judged proof front rest ended said)
