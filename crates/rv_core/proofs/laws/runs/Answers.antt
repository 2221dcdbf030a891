use Rattle.rv_core.proofs.Calling.{runs-end}
use Rattle.rv_core.proofs.laws.runs.Goals as goal

pub returns : goal.returns
returns c = runs-end
