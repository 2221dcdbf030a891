use Rattle.hy_lasso.proofs.Periods.{least-none}
use Rattle.hy_lasso.proofs.period.Period.of_none.Goals as goal

pub returns : goal.returns
returns c = least-none
