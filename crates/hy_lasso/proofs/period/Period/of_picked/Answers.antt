use Rattle.std.proofs.Common.{◌+◌, List, drop, sym, subst}
use Rattle.hy_bits.specs.Letter.{Letter}
use Rattle.hy_formula.specs.Lassos.{Lasso}
use Rattle.hy_lasso.specs.Words.{picked}
use Rattle.hy_lasso.specs.Joint.{IsLeastPeriod, IsJudged}
use Rattle.hy_lasso.proofs.Periods.{picked-more, picked-whole}
use Rattle.hy_lasso.proofs.period.Period.of_picked.Goals as goal

pub returns-in_default : goal.returns-in_default
returns-in_default c judged =
    let P : List (Lasso Letter) → Type 0 = IsJudged in
    c.in_default.ensures _ c.loop-k.invariant (picked c.args.list.now (drop (c.loop-k.k-index + 1) c.args.pick.now))
    (subst P (picked-whole _ _ _ _ c.loop-k-test.true c.at.ensures) judged)

pub loop-k-preserved : goal.loop-k-preserved
loop-k-preserved c =
    let P : List (Lasso Letter) → Type 0 = λ xs. IsLeastPeriod xs c.in-Some.more.stem c.in-Some.more.cycle in
    subst P (sym (picked-more _ _ _ _ c.loop-k-test.true c.at.ensures)) (c.in-Some.ensures _ c.loop-k.invariant)
