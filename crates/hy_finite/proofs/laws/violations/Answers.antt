use Rattle.hy_finite.proofs.Violating.{violating, decided-violates, arriving}
use Rattle.hy_finite.proofs.laws.violations.Goals as goal

pub returns-clause-not_every : goal.returns-clause-not_every
returns-clause-not_every c = violating

pub returns-clause-decided : goal.returns-clause-decided
returns-clause-decided c = decided-violates

pub returns-clause-by_new : goal.returns-clause-by_new
returns-clause-by_new c = arriving
