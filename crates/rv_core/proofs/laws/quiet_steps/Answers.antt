use Rattle.rv_core.proofs.Ending.{quiet-step}
use Rattle.rv_core.proofs.laws.quiet_steps.Goals as goal

pub returns : goal.returns
returns c = quiet-step
