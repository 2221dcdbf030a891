use Rattle.std.proofs.Common.{Ok, length, subst}
use Rattle.std.proofs.lemmas.Result.{err_from_is_err_and}
use Rattle.hy_formula.specs.Formulas.{plain_formula}
use Rattle.ea_reduce.specs.Plans.{PlainPlan}
use Rattle.claim_check.specs.Claims.{implication}
use Rattle.claim_check.proofs.Counted.{stopped_judged, weighed_judged}
use Rattle.claim_check.proofs.WeighedFormulas.{Weighs, implication_parted, implication_refuted, empty_so, filled_so}
use Rattle.claim_check.proofs.formulas.judge_implication.Goals as goal

pub returns-in_err-planned : goal.returns-in_err-planned
returns-in_err-planned c names certificate read =
    let p = err_from_is_err_and c.from_residual.result c.from_residual.ensures.1 in
    rw (p.1, p.2)
    (stopped_judged names (implication (plain_formula c.args.f.now) (plain_formula c.args.g.now)) certificate c.args.read.now.list
    read.over c.in_err-planned.field-0.0 (c.in_err-planned.ensures.stopped names))

pub returns-then-is_empty : goal.returns-then-is_empty
returns-then-is_empty c names certificate read =
    let P : PlainPlan → Type 0 = Weighs c.args.read.now.evidence.now c.is_refuted.result in
    let none =
    empty_so (length c.args.read.now.list) c.is_empty.result c.is_empty.ensures c.if-is_empty.true in
    weighed_judged names (implication (plain_formula c.args.f.now) (plain_formula c.args.g.now))
    certificate c.args.read.now.list read.over c.is_refuted.result c.in_ok-planned.ensures.within tt
    (implication_refuted names c.args.read.now.head.now c.args.read.now.list
    c.args.read.now.evidence.now c.is_refuted.result (plain_formula c.args.f.now) (plain_formula c.args.g.now)
    certificate read none (subst P c.in_ok-planned.ensures.plan c.is_refuted.ensures))

pub returns : goal.returns
returns c names certificate read =
    let some =
    filled_so (length c.args.read.now.list) c.is_empty.result c.is_empty.ensures c.if-is_empty.false in
    weighed_judged names (implication (plain_formula c.args.f.now) (plain_formula c.args.g.now)) certificate c.args.read.now.list
    read.over (Ok c.in_ok-separates.field-0) c.in_ok-planned.ensures.within tt
    (implication_parted names c.args.read.now.head.now c.args.read.now.list
    c.args.read.now.evidence.now c.in_ok-separates.field-0 (plain_formula c.args.f.now) (plain_formula c.args.g.now)
    certificate read some
    (c.in_ok-separates.ensures read.lassos))
