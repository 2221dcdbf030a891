use Rattle.rv_core.proofs.Ending.{returned, no-trace}
use Rattle.rv_core.proofs.laws.returning.Goals as goal

pub returns-clause-back : goal.returns-clause-back
returns-clause-back c = returned

pub returns-clause-later : goal.returns-clause-later
returns-clause-later c = no-trace
