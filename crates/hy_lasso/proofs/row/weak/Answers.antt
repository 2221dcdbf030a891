use Rattle.std.proofs.Common.{length, arith}
use Rattle.hy_formula.specs.Temporal.{endless, IsRelease}
use Rattle.hy_lasso.specs.Rows.{Says, Tells}
use Rattle.hy_lasso.proofs.Rows.{tells-like, release-like, either-says}
use Rattle.hy_lasso.proofs.row.weak.Goals as goal

pub returns : goal.returns
returns c =
    let t = c.release.ensures in
    let told : Tells c.args.stem (length c.or-either.result) c.release.result (IsRelease endless (Says c.args.stem c.args.right) (Says c.args.stem c.or-either.result)) =
    record { some = t.some; long = t.long; right = t.right }
    in
    tells-like _ _ _ _ _ (rw (c.or-either.ensures.long, c.requires.even) at told)
    (release-like _ _ _ _ (λ k. (λ h. h, λ h. h)) (λ k. either-says _ _ _ _ (omega (arith, c.requires.cycle, c.requires.even)) c.requires.even c.or-either.ensures.long c.or-either.ensures.values k))
