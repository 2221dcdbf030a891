use Rattle.std.proofs.Common.{◌≡◌, ◌-◌, refl, arith}
use Rattle.hy_lasso.proofs.Rows.{told-begin, told-more, told-end}
use Rattle.hy_lasso.proofs.row.finally.Goals as goal

pub loop-i-init : goal.loop-i-init
loop-i-init c = rw c.len-i.ensures (told-begin _ _ _ c.requires _ (λ i le. (λ h. h, λ h. h)) c.finally_at_seam-later.ensures)

pub loop-i-preserved : goal.loop-i-preserved
loop-i-preserved c =
    told-more _ _ _ c.requires _ _ c.value.result _ _ _ c.loop-i.i (c.loop-i.i - 1) c.loop-i.invariant (omega arith) (omega (arith, c.loop-i.invariant.long)) c.value.ensures (λ _. tt, λ _. refl)
    c.until_here-later.ensures
    c.set.ensures

pub returns : goal.returns
returns c =
    let e : c.loop-i.i ≡ 0 = omega (arith, c.loop-i-test.false) in
    told-end _ _ _ c.requires _ _ (λ i le. (λ h. h, λ h. h)) (rw e at c.loop-i.invariant)
