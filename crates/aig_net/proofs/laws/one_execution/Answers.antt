use Rattle.aig_net.proofs.Executing.{one_of_run}
use Rattle.aig_net.proofs.laws.one_execution.Goals as goal

pub returns : goal.returns
returns c net run a b good = one_of_run net good run a b
