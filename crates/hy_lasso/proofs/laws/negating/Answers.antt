use Rattle.hy_lasso.proofs.Negating.{decided-satisfies, negation}
use Rattle.hy_lasso.proofs.laws.negating.Goals as goal

pub returns-clause-decided : goal.returns-clause-decided
returns-clause-decided c = decided-satisfies

pub returns-clause-negated : goal.returns-clause-negated
returns-clause-negated c = negation
