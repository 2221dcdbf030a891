use Rattle.aiger_read.proofs.Outcomes.{text-net}
use Rattle.aiger_read.proofs.laws.text_is_net.Goals as goal

pub returns : goal.returns
returns c = text-net
