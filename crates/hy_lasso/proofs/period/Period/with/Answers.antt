use Rattle.std.proofs.Common.{arith}
use Rattle.hy_lasso.proofs.Periods.{past-common, past-together, least-more}
use Rattle.hy_lasso.proofs.period.Period.with.Goals as goal

pub returns-in_default : goal.returns-in_default
returns-in_default c tuple p more =
    past-common tuple c.args.lasso.now more _ _ p (rw (c.len-2.ensures, c.cycle.ensures.letters) at c.in_default.ensures)

pub returns-then-stem-cycle : goal.returns-then-stem-cycle
returns-then-stem-cycle c tuple p more =
    let common = rw (c.len-2.ensures, c.cycle.ensures.letters) at c.in-Some.ensures in
    let stem = rw (c.max-stem.ensures, c.len.ensures, c.stem.ensures) at c.if-stem-cycle.true in
    past-together tuple c.args.lasso.now more _ _ _ p common.0 (omega (arith, stem))

pub returns : goal.returns
returns c tuple p =
    let common = rw (c.len-2.ensures, c.cycle.ensures.letters) at c.in-Some.ensures in
    rw (c.max-stem.ensures, c.len.ensures, c.stem.ensures) (least-more tuple c.args.lasso.now _ _ _ p common.0)
