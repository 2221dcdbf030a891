use Rattle.rv_core.proofs.Ending.{ends-after}
use Rattle.rv_core.proofs.laws.going_on.Goals as goal

pub returns : goal.returns
returns c = ends-after
