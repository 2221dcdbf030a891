use Rattle.fin_monitor.proofs.Counting.{reached-most, reached-one}
use Rattle.fin_monitor.proofs.laws.residual_count.Goals as goal

pub returns-clause-most : goal.returns-clause-most
returns-clause-most c = reached-most

pub returns-clause-one : goal.returns-clause-one
returns-clause-one c = reached-one
