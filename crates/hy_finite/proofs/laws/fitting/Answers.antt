use Rattle.hy_finite.proofs.Agreeing.{fitted}
use Rattle.hy_finite.proofs.laws.fitting.Goals as goal

pub returns : goal.returns
returns c = fitted
