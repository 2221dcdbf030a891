use Rattle.std.proofs.Common.{◌≡◌, Decides, Ok, length, sym, ◌∙◌, subst, true≢false}
use Rattle.std.proofs.lemmas.Bool.Decides.{Decides-eqb}
use Rattle.std.proofs.lemmas.Result.{err_from_is_err_and}
use Rattle.std.proofs.lemmas.Slice.Eq.{slice_eq-Decides}
use Rattle.hy_formula.specs.Formulas.{plain_formula}
use Rattle.ea_reduce.specs.Plans.{PlainPlan, plain_plan}
use Rattle.cert_text.specs.Lines.{Line}
use Rattle.claim_check.specs.Claims.{equivalence}
use Rattle.claim_check.specs.Good.{plan_against}
use Rattle.claim_check.proofs.Counted.{stopped_judged, weighed_judged}
use Rattle.claim_check.proofs.WeighedFormulas.{WeighsBoth, empty_so, equivalence_refuted, filled_so, first_parted, second_parted}
use Rattle.claim_check.proofs.formulas.judge_equivalence.Goals as goal

pub returns-in_err-planned : goal.returns-in_err-planned
returns-in_err-planned c names certificate read =
    let p = err_from_is_err_and c.from_residual.result c.from_residual.ensures.1 in
    rw (p.1, p.2)
    (stopped_judged names (equivalence (plain_formula c.args.f.now) (plain_formula c.args.g.now)) certificate c.args.read.now.list
    read.over c.in_err-planned.field-0.0 (c.in_err-planned.ensures.stopped names))

pub returns-in_err-separates : goal.returns-in_err-separates
returns-in_err-separates c names certificate read =
    let p = err_from_is_err_and c.from_residual-in_err-separates.result
    c.from_residual-in_err-separates.ensures.1 in
    rw (p.1, p.2) tt

pub returns-in_err-separates-2 : goal.returns-in_err-separates-2
returns-in_err-separates-2 c names certificate read =
    let p = err_from_is_err_and c.from_residual-in_err-separates-2.result
    c.from_residual-in_err-separates-2.ensures.1 in
    rw (p.1, p.2) tt

pub returns-then-is_empty : goal.returns-then-is_empty
returns-then-is_empty c names certificate read =
    let there = plan_against (plain_formula c.args.f.now) (plain_formula c.args.g.now) in
    let back = plain_plan c.in_ok-planned.planned.back.plan in
    let P : PlainPlan → Type 0 =
    λ plan. WeighsBoth c.args.read.now.evidence.now c.are_refuted.result plan back in
    let Q : PlainPlan → Type 0 =
    WeighsBoth c.args.read.now.evidence.now c.are_refuted.result there in
    let none =
    empty_so (length c.args.read.now.list) c.is_empty.result c.is_empty.ensures c.if-is_empty.true in
    weighed_judged names (equivalence (plain_formula c.args.f.now) (plain_formula c.args.g.now))
    certificate c.args.read.now.list read.over c.are_refuted.result c.in_ok-planned.ensures.within tt
    (equivalence_refuted names c.args.read.now.head.now c.args.read.now.list
    c.args.read.now.evidence.now c.are_refuted.result (plain_formula c.args.f.now)
    (plain_formula c.args.g.now) certificate read none
    (subst Q c.in_ok-planned.ensures.back
    (subst P c.in_ok-planned.ensures.there c.are_refuted.ensures)))

pub returns-then-eq : goal.returns-then-eq
returns-then-eq c names certificate read =
    let P : Line → Type 0 = λ l. Decides c.eq.result (c.args.read.now.head.now ≡ l) in
    let exactly =
    subst P c.as_slice.ensures (slice_eq-Decides Decides-eqb _ _ c.eq.result c.eq.ensures) in
    let some =
    filled_so (length c.args.read.now.list) c.is_empty.result c.is_empty.ensures c.if-is_empty.false in
    weighed_judged names (equivalence (plain_formula c.args.f.now) (plain_formula c.args.g.now))
    certificate c.args.read.now.list read.over (Ok c.in_ok-separates.field-0)
    c.in_ok-planned.ensures.within tt
    (second_parted names c.args.read.now.head.now c.args.read.now.list
    c.args.read.now.evidence.now c.in_ok-separates.field-0 (plain_formula c.args.f.now)
    (plain_formula c.args.g.now) certificate read some (exactly.0 c.if-eq.true)
    (c.in_ok-separates.ensures read.lassos))

pub returns : goal.returns
returns c names certificate read =
    let P : Line → Type 0 = λ l. Decides c.eq.result (c.args.read.now.head.now ≡ l) in
    let exactly =
    subst P c.as_slice.ensures (slice_eq-Decides Decides-eqb _ _ c.eq.result c.eq.ensures) in
    let some =
    filled_so (length c.args.read.now.list) c.is_empty.result c.is_empty.ensures c.if-is_empty.false in
    weighed_judged names (equivalence (plain_formula c.args.f.now) (plain_formula c.args.g.now))
    certificate c.args.read.now.list read.over (Ok c.in_ok-separates-2.field-0)
    c.in_ok-planned.ensures.within tt
    (first_parted names c.args.read.now.head.now c.args.read.now.list
    c.args.read.now.evidence.now c.in_ok-separates-2.field-0 (plain_formula c.args.f.now)
    (plain_formula c.args.g.now) certificate read some
    (λ is. true≢false (sym (exactly.1 is) ∙ c.if-eq.false))
    (c.in_ok-separates-2.ensures read.lassos))
