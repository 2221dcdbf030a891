use Rattle.fin_monitor.proofs.CodeBits.{code-or}
use Rattle.fin_monitor.proofs.laws.joined_codes.Goals as goal

pub returns : goal.returns
returns c = code-or
