use Rattle.std.proofs.Common.{length}
use Rattle.hy_formula.specs.Temporal.{endless, IsUntil}
use Rattle.hy_lasso.specs.Rows.{Says, Tells}
use Rattle.hy_lasso.proofs.Rows.{release-told, says-not}
use Rattle.hy_lasso.proofs.row.globally.Goals as goal

pub returns : goal.returns
returns c =
    let t = c.finally.ensures in
    let told : Tells c.args.stem (length c.negate.result) c.finally.result (IsUntil endless (λ k. Unit {0}) (Says c.args.stem c.negate.result)) =
    record { some = t.some; long = t.long; right = t.right }
    in
    release-told _ _ _ _ (λ k. Unit {0}) _ c.finally.result _ (λ k. (λ _ h. h, λ _. tt)) (says-not _ _ _ c.requires c.negate.ensures.long c.negate.ensures.values)
    (rw c.negate.ensures.long at told)
    c.negate-2.ensures.long
    c.negate-2.ensures.values
