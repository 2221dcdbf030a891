use Rattle.std.proofs.Common.{◌≡◌, ◌-◌, arith}
use Rattle.std.proofs.lemmas.Bool.Decides.{Decides-at}
use Rattle.std.specs.Bool.{Decides}
use Rattle.hy_lasso.specs.Rows.{Says}
use Rattle.hy_lasso.proofs.Rows.{told-begin, told-more, told-end, says-at, steady-even}
use Rattle.hy_lasso.proofs.row.until.Goals as goal

pub loop-i-init : goal.loop-i-init
loop-i-init c = rw c.len-i.ensures (told-begin _ _ _ c.requires.cycle _ (steady-even _ _ _ c.requires.even) c.until_at_seam-later.ensures)

pub loop-i-preserved : goal.loop-i-preserved
loop-i-preserved c =
    let left : Decides c.value-in-loop-i.result (Says c.args.stem c.args.left.now (c.loop-i.i - 1)) =
    Decides-at _ _ c.value-in-loop-i.ensures
    (says-at c.args.stem c.args.left.now (omega (arith, c.requires.even, c.requires.cycle)) (c.loop-i.i - 1) (omega (arith, c.requires.even, c.loop-i.invariant.long)))
    in
    told-more _ _ _ c.requires.cycle _ _ c.value.result _ _ _ c.loop-i.i (c.loop-i.i - 1) c.loop-i.invariant (omega arith) (omega (arith, c.loop-i.invariant.long)) c.value.ensures
    left
    c.until_here-later.ensures
    c.set.ensures

pub returns : goal.returns
returns c =
    let e : c.loop-i.i ≡ 0 = omega (arith, c.loop-i-test.false) in
    told-end _ _ _ c.requires.cycle _ _ (steady-even _ _ _ c.requires.even) (rw e at c.loop-i.invariant)
