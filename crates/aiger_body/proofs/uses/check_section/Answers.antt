use Rattle.std.proofs.Common.{◌≡◌, ◌+◌, ℕ, suc, subst, arith}
use Rattle.std.proofs.lemmas.Result.{err_from_is_err_and}
use Rattle.aiger_body.specs.Outcomes.{of_uses}
use Rattle.aiger_body.specs.Uses.{AreChecked}
use Rattle.aiger_body.proofs.Stages.{tells_more}
use Rattle.aiger_body.proofs.uses.check_section.Goals as goal

pub returns-in_err-check_line : goal.returns-in_err-check_line
returns-in_err-check_line c =
    let p = err_from_is_err_and c.from_residual.result c.from_residual.ensures.1 in
    rw (p.1, p.2)
    (tells_more (of_uses c.args.header.now c.args.bytes.now) (suc c.loop.checked.line) (c.args.checked.now.line + c.args.count) c.in_err-check_line.field-0.0 (omega (arith, c.loop.invariant.count, c.loop-test.true)) c.in_err-check_line.ensures)

pub loop-preserved : goal.loop-preserved
loop-preserved c =
    let next : suc c.loop.checked.line ≡ c.args.checked.now.line + (c.loop.counter + 1) = omega (arith, c.loop.invariant.count) in
    let P : ℕ → Type 0 = λ k. AreChecked c.args.header.now c.args.bytes.now k c.check_line.new.checked in
    subst P next c.in_ok-check_line.ensures
