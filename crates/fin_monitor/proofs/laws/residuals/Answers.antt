use Rattle.fin_monitor.proofs.Residuing.{monitoring}
use Rattle.fin_monitor.proofs.laws.residuals.Goals as goal

pub returns : goal.returns
returns c = monitoring
