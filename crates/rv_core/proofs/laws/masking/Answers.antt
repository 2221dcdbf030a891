use Rattle.rv_core.proofs.Masking.{meets-masked, dominates-masked}
use Rattle.rv_core.proofs.laws.masking.Goals as goal

pub returns-clause-body : goal.returns-clause-body
returns-clause-body c = meets-masked

pub returns-clause-dominance : goal.returns-clause-dominance
returns-clause-dominance c = dominates-masked
