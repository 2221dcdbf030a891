use Rattle.std.proofs.Common.{refl, ap, ◌∙◌, Ok, Err, subst}
use Rattle.hy_read.specs.Judged.{IsLate}
use Rattle.hy_read.specs.Results.{heights}
use Rattle.hy_read.proofs.Reading.{late}
use Rattle.hy_read.proofs.read.build.Goals as goal

pub returns-in-Ok : goal.returns-in-Ok
returns-in-Ok c = λ many limit old m has.
    late many limit old c.args.names.now c.args.text.now c.args.count (Ok c.in-Ok.formulas) m has c.in-Ok.ensures

pub returns-in-Err-TooHigh : goal.returns-in-Err-TooHigh
returns-in-Err-TooHigh c = λ many limit old m has.
    let all = late many limit old c.args.names.now c.args.text.now c.args.count c.build_formulas.result m has c.build_formulas.ensures in
    rw c.past.ensures (heights, refl, refl, subst (λ r. IsLate many limit old c.args.names.now c.args.text.now r) (c.in-Err-TooHigh.is ∙ ap Err c.in-Err-TooHigh.field-0-is) all)
