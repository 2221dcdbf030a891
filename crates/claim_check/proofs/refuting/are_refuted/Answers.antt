use Rattle.std.proofs.Common.{ℕ, ◌≤◌, List, Option, Ok, length, arith, subst}
use Rattle.std.specs.Prelude.{IfSome}
use Rattle.std.proofs.lemmas.Result.{err_from_is_err_and}
use denote.Ref.{Bor}
use Rattle.ea_reduce.specs.Plans.{plain_plan}
use Rattle.claim_check.proofs.Refuted.{Passes, both_passed, first_not_passed, first_refused_so}
use Rattle.claim_check.proofs.refuting.are_refuted.Goals as goal

pub is_refuted-requires-clause-short : goal.is_refuted-requires-clause-short
is_refuted-requires-clause-short c =
    let P : Option (Bor (List ℕ)) → Type 0 =
    λ o. IfSome o (λ left. length left.now ≤ length c.args.text.now) in
    let shorter = subst P c.in-Some.is c.in_ok-left.ensures.shorter in
    omega (arith, shorter, c.requires.short)

pub returns-in_err-left : goal.returns-in_err-left
returns-in_err-left c =
    let p = err_from_is_err_and c.from_residual.result c.from_residual.ensures.1 in
    rw (p.1, p.2)
    (first_refused_so c.args.text.now (plain_plan c.args.planned.now.there.plan)
    (plain_plan c.args.planned.now.back.plan) c.in_err-left.field-0.0 c.in_err-left.ensures.passed)

pub returns-in-Some : goal.returns-in-Some
returns-in-Some c =
    let there = plain_plan c.args.planned.now.there.plan in
    let P : Option (Bor (List ℕ)) → Type 0 = λ o. Passes c.args.text.now there (Ok o) in
    both_passed c.args.text.now there (plain_plan c.args.planned.now.back.plan) c.in-Some.left
    c.is_refuted.result (subst P c.in-Some.is c.in_ok-left.ensures.passed) c.is_refuted.ensures

pub returns-in-None : goal.returns-in-None
returns-in-None c =
    let there = plain_plan c.args.planned.now.there.plan in
    let P : Option (Bor (List ℕ)) → Type 0 = λ o. Passes c.args.text.now there (Ok o) in
    first_not_passed c.args.text.now there (plain_plan c.args.planned.now.back.plan)
    (subst P c.in-None.is c.in_ok-left.ensures.passed)
