use Rattle.std.proofs.Common.{◌≡◌, ◌-◌, ◌∙◌, ap, set, arith}
use Rattle.hy_lasso.proofs.Rows.{next-told}
use Rattle.hy_lasso.proofs.row.next.Goals as goal

pub returns : goal.returns
returns c =
    let e : c.loop-i.i ≡ c.len-last.result - 1 = omega (arith, c.loop-i-test.false) in
    next-told _ _ _ _ (c.len-last.result - 1) c.requires (omega (arith, c.requires, c.len-last.ensures)) (rw e at c.loop-i.invariant)
    (c.set-2.ensures ∙ ap (λ b. set c.loop-i.row (c.len-last.result - 1) b) c.value-behind.ensures)
