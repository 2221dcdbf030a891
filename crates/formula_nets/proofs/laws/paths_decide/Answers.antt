use Rattle.formula_nets.proofs.Deciding.{none-bad, some-bad}
use Rattle.formula_nets.proofs.laws.paths_decide.Goals as goal

pub returns-clause-some : goal.returns-clause-some
returns-clause-some c = some-bad

pub returns-clause-none : goal.returns-clause-none
returns-clause-none c = none-bad
