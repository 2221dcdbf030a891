use Rattle.rv_core.proofs.Ending.{ends-one, ends-some}
use Rattle.rv_core.proofs.laws.endings.Goals as goal

pub returns-clause-one : goal.returns-clause-one
returns-clause-one c = ends-one

pub returns-clause-some : goal.returns-clause-some
returns-clause-some c = ends-some
