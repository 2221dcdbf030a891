use Rattle.rv_core.proofs.Fewer.{bound-kept}
use Rattle.rv_core.proofs.laws.bounding.Goals as goal

pub returns : goal.returns
returns c = bound-kept
