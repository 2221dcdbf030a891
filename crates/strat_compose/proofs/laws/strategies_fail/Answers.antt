-- Why `strategies_fail` keeps its contract.
use Rattle.strat_compose.proofs.Winning.{fails, part-recurs}
use Rattle.strat_compose.proofs.laws.strategies_fail.Goals as goal

pub returns-clause-recurs : goal.returns-clause-recurs
returns-clause-recurs c = part-recurs

pub returns-clause-fails : goal.returns-clause-fails
returns-clause-fails c = fails
