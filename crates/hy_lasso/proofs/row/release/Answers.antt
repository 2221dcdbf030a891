use Rattle.std.proofs.Common.{length, arith}
use Rattle.hy_formula.specs.Temporal.{endless, IsUntil}
use Rattle.hy_lasso.specs.Rows.{Says, Tells}
use Rattle.hy_lasso.proofs.Rows.{release-told, says-not}
use Rattle.hy_lasso.proofs.row.release.Goals as goal

pub returns : goal.returns
returns c =
    let t = c.until-2.ensures in
    let told : Tells c.args.stem (length c.negate-2.result) c.until-2.result (IsUntil endless (Says c.args.stem c.negate.result) (Says c.args.stem c.negate-2.result)) =
    record { some = t.some; long = t.long; right = t.right }
    in
    release-told _ _ _ _ _ _ c.until-2.result _ (says-not _ _ _ (omega (arith, c.requires.cycle, c.requires.even)) c.negate.ensures.long c.negate.ensures.values)
    (says-not _ _ _ c.requires.cycle c.negate-2.ensures.long c.negate-2.ensures.values)
    (rw c.negate-2.ensures.long at told)
    c.negate-3.ensures.long
    c.negate-3.ensures.values
