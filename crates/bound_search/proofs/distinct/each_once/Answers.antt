use Rattle.std.proofs.Common.{[]}
use Rattle.bound_search.proofs.FoundLists.{none_once, each-more}
use Rattle.bound_search.proofs.distinct.each_once.Goals as goal

pub loop-lasso-init : goal.loop-lasso-init
loop-lasso-init c = none_once [] _ c.new-made.ensures

pub loop-lasso-preserved : goal.loop-lasso-preserved
loop-lasso-preserved c =
    each-more _ _ _ c.loop-lasso.lasso-index _ c.loop-lasso-test.true c.lasso-item.is
    c.loop-lasso.invariant c.in_ok-add_once.ensures
