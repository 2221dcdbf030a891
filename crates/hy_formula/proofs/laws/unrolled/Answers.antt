use Rattle.hy_formula.proofs.Unrolling.{release_step}
use Rattle.hy_formula.proofs.laws.unrolled.Goals as goal

pub returns-clause-release : goal.returns-clause-release
returns-clause-release c = release_step
