use Rattle.std.proofs.Common.{◌∙◌, ap, inl, inr, subst}
use Rattle.std.proofs.lemmas.Result.{err_from_is_err_and}
use Rattle.hy_formula.specs.Formulas.{plain_formula}
use Rattle.ea_reduce.specs.Plans.{PlainPlan, plain_plan}
use Rattle.rank_proofs.specs.Counts.{HasFewMembers, HasManyMembers}
use Rattle.claim_check.specs.Claims.{equivalence}
use Rattle.claim_check.proofs.Counted.{against_net, back_stops, implication_stops, plan_stops, planned_stops}
use Rattle.claim_check.proofs.counting.plan_equivalence.Goals as goal

pub returns-in_err-plan-clause-stopped : goal.returns-in_err-plan-clause-stopped
returns-in_err-plan-clause-stopped c =
    let p = err_from_is_err_and c.from_residual.result c.from_residual.ensures.1 in
    rw (p.1, p.2) (λ names.
    implication_stops names (equivalence (plain_formula c.args.f.now) (plain_formula c.args.g.now))
    c.args.list.now (plain_formula c.args.f.now) (plain_formula c.args.g.now) (λ many. inl many)
    c.in_err-plan.field-0.0 (λ _ _ bad. bad) (λ one two. (one, two)) c.in_err-plan.ensures.refused)

pub returns-in_err-converse-clause-stopped : goal.returns-in_err-converse-clause-stopped
returns-in_err-converse-clause-stopped c =
    let p = err_from_is_err_and c.from_residual-in_err-converse.result
    c.from_residual-in_err-converse.ensures.1 in
    rw (p.1, p.2) (λ names.
    back_stops names (plain_formula c.args.f.now) (plain_formula c.args.g.now) c.args.list.now c.in_err-converse.field-0.0
    c.in_ok-plan.ensures.first c.in_ok-plan.ensures.second c.in_err-converse.ensures.refused)

pub returns-in_err-there-clause-stopped : goal.returns-in_err-there-clause-stopped
returns-in_err-there-clause-stopped c =
    let p = err_from_is_err_and c.from_residual-in_err-there.result
    c.from_residual-in_err-there.ensures.1 in
    let Many : PlainPlan → Type 0 = HasManyMembers in
    rw (p.1, p.2) (λ names.
    planned_stops names (equivalence (plain_formula c.args.f.now) (plain_formula c.args.g.now))
    c.args.list.now (plain_plan c.in_ok-plan.plan)
    (c.in_ok-plan.ensures.first, c.in_ok-plan.ensures.second)
    (c.in_ok-plan.ensures.few, (c.in_ok-converse.ensures.few, tt))
    (λ many. inl (subst Many c.in_ok-plan.ensures.plan many)) c.in_err-there.field-0.0
    c.in_err-there.ensures.refused)

pub returns-in_err-back-clause-stopped : goal.returns-in_err-back-clause-stopped
returns-in_err-back-clause-stopped c =
    let p = err_from_is_err_and c.from_residual-in_err-back.result
    c.from_residual-in_err-back.ensures.1 in
    let Many : PlainPlan → Type 0 = HasManyMembers in
    let Small : PlainPlan → Type 0 = HasFewMembers in
    rw (p.1, p.2) (λ names.
    plan_stops names (equivalence (plain_formula c.args.f.now) (plain_formula c.args.g.now))
    c.args.list.now (plain_plan c.in_ok-converse.converse)
    (c.in_ok-plan.ensures.first, c.in_ok-plan.ensures.second)
    (c.in_ok-plan.ensures.few, (c.in_ok-converse.ensures.few, tt))
    (λ many. inr (inl (subst Many c.in_ok-converse.ensures.plan many)))
    (λ few. (
      subst Small c.in_ok-plan.ensures.plan c.in_ok-there.ensures.few,
      (subst Small c.in_ok-converse.ensures.plan few, tt),
    )) c.in_err-back.field-0.0 c.in_err-back.ensures.stopped)

pub returns-clause-nets : goal.returns-clause-nets
returns-clause-nets c = (
  against_net (plain_formula c.args.f.now) (plain_formula c.args.g.now)
      (plain_plan c.in_ok-there.there.plan)
      (ap plain_plan c.in_ok-there.ensures.plan ∙ c.in_ok-plan.ensures.plan)
      c.in_ok-plan.ensures.few,
  against_net (plain_formula c.args.g.now) (plain_formula c.args.f.now)
      (plain_plan c.in_ok-back.back.plan)
      (ap plain_plan c.in_ok-back.ensures.plan ∙ c.in_ok-converse.ensures.plan)
      c.in_ok-converse.ensures.few,
)

pub returns-clause-within : goal.returns-clause-within
returns-clause-within c =
    let Small : PlainPlan → Type 0 = HasFewMembers in
    record {
      taken = (c.in_ok-plan.ensures.first, c.in_ok-plan.ensures.second);
      instances = (c.in_ok-plan.ensures.few, (c.in_ok-converse.ensures.few, tt));
      members = (
        subst Small c.in_ok-plan.ensures.plan c.in_ok-there.ensures.few,
        (subst Small c.in_ok-converse.ensures.plan c.in_ok-back.ensures.few, tt),
      );
      positions = c.in_ok-back.ensures.judged;
    }
