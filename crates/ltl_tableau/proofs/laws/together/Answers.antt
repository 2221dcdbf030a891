use Rattle.ltl_tableau.proofs.TasksTogether.{walk-of, tuple-of, never-together}
use Rattle.ltl_tableau.proofs.laws.together.Goals as goal

pub returns-clause-walk : goal.returns-clause-walk
returns-clause-walk c = walk-of

pub returns-clause-tuple : goal.returns-clause-tuple
returns-clause-tuple c = tuple-of

pub returns-clause-never : goal.returns-clause-never
returns-clause-never c = never-together
