use Rattle.hy_read.proofs.Viable.{stuck-faults}
use Rattle.hy_read.proofs.laws.fault_found.Goals as goal

pub returns-clause-token : goal.returns-clause-token
returns-clause-token c = stuck-faults
