use Rattle.std.proofs.Common.{inl, ◌∙◌, ap, subst}
use Rattle.std.proofs.lemmas.Result.{err_from_is_err_and}
use Rattle.hy_formula.specs.Formulas.{plain_formula}
use Rattle.ea_reduce.specs.Plans.{PlainPlan, plain_plan}
use Rattle.rank_proofs.specs.Counts.{HasFewMembers, HasManyMembers}
use Rattle.claim_check.specs.Claims.{formula}
use Rattle.claim_check.proofs.Counted.{formula_net, plan_stops, reduction_stops}
use Rattle.claim_check.proofs.counting.plan_formula.Goals as goal

pub returns-clause-net : goal.returns-clause-net
returns-clause-net c =
    formula_net (plain_formula c.args.f.now) (plain_plan c.in_ok-made.made.plan)
    (ap plain_plan c.in_ok-made.ensures.plan ∙ c.in_ok-plan.ensures.plan) c.in_ok-plan.ensures.few

pub returns-in_err-plan-clause-stopped : goal.returns-in_err-plan-clause-stopped
returns-in_err-plan-clause-stopped c =
    let p = err_from_is_err_and c.from_residual.result c.from_residual.ensures.1 in
    rw (p.1, p.2) (λ names.
    reduction_stops names (plain_formula c.args.f.now) c.args.list.now c.in_err-plan.field-0.0 c.in_err-plan.ensures.refused)

pub returns-in_err-made-clause-stopped : goal.returns-in_err-made-clause-stopped
returns-in_err-made-clause-stopped c =
    let p = err_from_is_err_and c.from_residual-in_err-made.result
    c.from_residual-in_err-made.ensures.1 in
    let Many : PlainPlan → Type 0 = HasManyMembers in
    let Small : PlainPlan → Type 0 = HasFewMembers in
    rw (p.1, p.2) (λ names.
    plan_stops names (formula (plain_formula c.args.f.now)) c.args.list.now
    (plain_plan c.in_ok-plan.plan) c.in_ok-plan.ensures.taken (c.in_ok-plan.ensures.few, tt)
    (λ many. inl (subst Many c.in_ok-plan.ensures.plan many))
    (λ few. (subst Small c.in_ok-plan.ensures.plan few, tt)) c.in_err-made.field-0.0
    c.in_err-made.ensures.stopped)
