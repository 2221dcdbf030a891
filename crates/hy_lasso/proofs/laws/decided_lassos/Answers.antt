use Rattle.hy_lasso.proofs.LassoWords.{decided-lassos}
use Rattle.hy_lasso.proofs.laws.decided_lassos.Goals as goal

pub returns : goal.returns
returns c = decided-lassos
