use Rattle.aig_net.proofs.Rounds.{gone-recurs, recurring}
use Rattle.aig_net.proofs.Closings.{gone-execution, recurring-execution}
use Rattle.aig_net.proofs.laws.lassos_repeat.Goals as goal

pub returns-clause-gone : goal.returns-clause-gone
returns-clause-gone c = gone-execution

pub returns-clause-recurs : goal.returns-clause-recurs
returns-clause-recurs c = gone-recurs

pub returns-clause-lasso : goal.returns-clause-lasso
returns-clause-lasso c = recurring-execution

pub returns-clause-same : goal.returns-clause-same
returns-clause-same c = recurring
