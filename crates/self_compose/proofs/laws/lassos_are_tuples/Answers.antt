use Rattle.self_compose.proofs.Periods.{copy-lasso, join-lasso}
use Rattle.self_compose.proofs.laws.lassos_are_tuples.Goals as goal

pub returns-clause-copy : goal.returns-clause-copy
returns-clause-copy c = copy-lasso

pub returns-clause-join : goal.returns-clause-join
returns-clause-join c = join-lasso
