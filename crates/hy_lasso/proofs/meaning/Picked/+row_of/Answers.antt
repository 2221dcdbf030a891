use Rattle.std.proofs.Common.{◌⊎◌, length}
use Rattle.hy_formula.specs.Temporal.{endless, IsUntil, IsRelease}
use Rattle.hy_lasso.specs.Rows.{Says, Tells}
use Rattle.hy_lasso.proofs.Bodies.{row-finally, row-globally, row-until, row-release, row-weak}
use Rattle.hy_lasso.proofs.meaning.Picked.+row_of.Goals as goal

pub returns-in_ok-row_of-in-Finally : goal.returns-in_ok-row_of-in-Finally
returns-in_ok-row_of-in-Finally fuel c =
    let t = c.finally.ensures in
    let told : Tells c.args.self.now.stem (length c.in_ok-row_of-in-Finally.field-0) c.finally.result (IsUntil endless (λ k. Unit {0}) (Says c.args.self.now.stem c.in_ok-row_of-in-Finally.field-0)) =
    record { some = t.some; long = t.long; right = t.right }
    in
    rw (c.in-Finally.is, ← c.deref-in-Finally.ensures) (row-finally _ _ _ _ _ _ c.in_ok-row_of-in-Finally.ensures told)

pub returns-in_ok-row_of-in-Globally : goal.returns-in_ok-row_of-in-Globally
returns-in_ok-row_of-in-Globally fuel c =
    let t = c.globally.ensures in
    let told : Tells c.args.self.now.stem (length c.in_ok-row_of-in-Globally.field-0) c.globally.result (IsRelease endless (λ k. ⊥) (Says c.args.self.now.stem c.in_ok-row_of-in-Globally.field-0)) =
    record { some = t.some; long = t.long; right = t.right }
    in
    rw (c.in-Globally.is, ← c.deref-in-Globally.ensures) (row-globally _ _ _ _ _ _ c.in_ok-row_of-in-Globally.ensures told)

pub returns-in_ok-row_of-in-Until-2 : goal.returns-in_ok-row_of-in-Until-2
returns-in_ok-row_of-in-Until-2 fuel c =
    let t = c.until-in-Until.ensures in
    let told : Tells c.args.self.now.stem (length c.in_ok-row_of-in-Until-2.field-0) c.until-in-Until.result (IsUntil endless (Says c.args.self.now.stem c.in_ok-row_of-in-Until.field-0) (Says c.args.self.now.stem c.in_ok-row_of-in-Until-2.field-0)) =
    record { some = t.some; long = t.long; right = t.right }
    in
    rw (c.in-Until.is, ← c.deref-in-Until.ensures, ← c.deref-in-Until-2.ensures) (row-until _ _ _ _ _ _ _ _ c.in_ok-row_of-in-Until.ensures c.in_ok-row_of-in-Until-2.ensures told)

pub returns-in_ok-row_of-in-Release-2 : goal.returns-in_ok-row_of-in-Release-2
returns-in_ok-row_of-in-Release-2 fuel c =
    let t = c.release.ensures in
    let told : Tells c.args.self.now.stem (length c.in_ok-row_of-in-Release-2.field-0) c.release.result (IsRelease endless (Says c.args.self.now.stem c.in_ok-row_of-in-Release.field-0) (Says c.args.self.now.stem c.in_ok-row_of-in-Release-2.field-0)) =
    record { some = t.some; long = t.long; right = t.right }
    in
    rw (c.in-Release.is, ← c.deref-in-Release.ensures, ← c.deref-in-Release-2.ensures) (row-release _ _ _ _ _ _ _ _ c.in_ok-row_of-in-Release.ensures c.in_ok-row_of-in-Release-2.ensures told)

pub returns-in_ok-row_of-in-Weak-2 : goal.returns-in_ok-row_of-in-Weak-2
returns-in_ok-row_of-in-Weak-2 fuel c =
    let t = c.weak.ensures in
    let told : Tells c.args.self.now.stem (length c.in_ok-row_of-in-Weak-2.field-0) c.weak.result (IsRelease endless (Says c.args.self.now.stem c.in_ok-row_of-in-Weak-2.field-0) (λ k. Says c.args.self.now.stem c.in_ok-row_of-in-Weak.field-0 k ⊎ Says c.args.self.now.stem c.in_ok-row_of-in-Weak-2.field-0 k)) =
    record { some = t.some; long = t.long; right = t.right }
    in
    rw (c.in-Weak.is, ← c.deref-in-Weak.ensures, ← c.deref-in-Weak-2.ensures) (row-weak _ _ _ _ _ _ _ _ c.in_ok-row_of-in-Weak.ensures c.in_ok-row_of-in-Weak-2.ensures told)
