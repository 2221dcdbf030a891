use Rattle.std.proofs.Common.{◌+◌, List, drop, sym, ◌∙◌, subst}
use Rattle.hy_bits.specs.Letter.{Letter}
use Rattle.hy_formula.specs.Lassos.{Lasso}
use Rattle.hy_lasso.specs.Joint.{IsLeastPeriod, IsJudged}
use Rattle.hy_lasso.proofs.Periods.{front-more, front-whole}
use Rattle.hy_lasso.proofs.period.Period.of_list.Goals as goal

pub returns-in_default : goal.returns-in_default
returns-in_default c judged =
    let P : List (Lasso Letter) → Type 0 = IsJudged in
    c.in_default.ensures _ c.loop-lasso.invariant (drop (c.loop-lasso.lasso-index + 1) c.as_slice-lasso-items.result.now)
    (subst P (sym c.as_slice-lasso-items.ensures ∙ front-whole _ c.loop-lasso.lasso-index c.lasso-item.result c.loop-lasso-test.true c.lasso-item.is) judged)

pub loop-lasso-preserved : goal.loop-lasso-preserved
loop-lasso-preserved c =
    let P : List (Lasso Letter) → Type 0 = λ xs. IsLeastPeriod xs c.in-Some.more.stem c.in-Some.more.cycle in
    subst P (sym (front-more _ _ _ c.loop-lasso-test.true c.lasso-item.is)) (c.in-Some.ensures _ c.loop-lasso.invariant)
