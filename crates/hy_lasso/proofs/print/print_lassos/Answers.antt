use Rattle.hy_lasso.proofs.Printing.{printed-more}
use Rattle.hy_lasso.proofs.print.print_lassos.Goals as goal

pub loop-lasso-preserved : goal.loop-lasso-preserved
loop-lasso-preserved c =
    printed-more _ _ _ _ _ _ c.loop-lasso-test.true c.lasso-item.is c.loop-lasso.invariant c.in_ok-push_lasso.ensures
