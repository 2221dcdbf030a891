use Rattle.hy_read.proofs.Faulting.{fault-answered, end-answered}
use Rattle.hy_read.proofs.laws.fault_answered.Goals as goal

pub returns-clause-token : goal.returns-clause-token
returns-clause-token c = fault-answered

pub returns-clause-end : goal.returns-clause-end
returns-clause-end c = end-answered
