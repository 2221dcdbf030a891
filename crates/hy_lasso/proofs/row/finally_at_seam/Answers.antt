use Rattle.std.proofs.Common.{◌≡◌, ◌-◌, refl, arith}
use Rattle.hy_lasso.proofs.Rows.{seam-more, seam-end}
use Rattle.hy_lasso.proofs.row.finally_at_seam.Goals as goal

pub loop-i-preserved : goal.loop-i-preserved
loop-i-preserved c = (
  omega arith,
  seam-more _ _ _ c.value.result _ _ _ (c.loop-i.i - 1) c.loop-i.i c.requires c.loop-i.invariant.1 (omega arith) (omega arith) c.value.ensures (λ _. tt, λ _. refl)
      c.until_here-later.ensures,
)

pub returns : goal.returns
returns c =
    let e : c.loop-i.i ≡ c.args.stem = omega (arith, c.loop-i-test.false, c.loop-i.invariant.0) in
    let here = rw e at c.loop-i.invariant.1 in
    seam-end _ _ _ _ c.requires (λ i le. (λ h. h, λ h. h)) here
