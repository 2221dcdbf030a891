use Rattle.std.proofs.Common.{◌≡◌, ◌-◌, arith}
use Rattle.std.specs.Bool.{Decides}
use Rattle.std.proofs.lemmas.Bool.Decides.{Decides-at}
use Rattle.hy_lasso.specs.Rows.{Says}
use Rattle.hy_lasso.proofs.Rows.{seam-more, seam-end, says-at, steady-even}
use Rattle.hy_lasso.proofs.row.until_at_seam.Goals as goal

pub loop-i-preserved : goal.loop-i-preserved
loop-i-preserved c =
    let left : Decides c.value-in-loop-i.result (Says c.args.stem c.args.left.now (c.loop-i.i - 1)) =
    Decides-at _ _ c.value-in-loop-i.ensures
    (says-at c.args.stem c.args.left.now (omega (arith, c.requires.even, c.requires.cycle)) (c.loop-i.i - 1) (omega (arith, c.requires.even)))
    in (
      omega arith,
      seam-more _ _ _ c.value.result _ _ _ (c.loop-i.i - 1) c.loop-i.i c.requires.cycle c.loop-i.invariant.1 (omega arith) (omega arith) c.value.ensures left
          c.until_here-later.ensures,
    )

pub returns : goal.returns
returns c =
    let e : c.loop-i.i ≡ c.args.stem = omega (arith, c.loop-i-test.false, c.loop-i.invariant.0) in
    let here = rw e at c.loop-i.invariant.1 in
    seam-end _ _ _ _ c.requires.cycle (steady-even _ _ _ c.requires.even) here
