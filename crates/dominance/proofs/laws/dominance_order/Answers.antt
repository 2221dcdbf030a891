use Rattle.dominance.proofs.Replacements.{over-itself, over-through}
use Rattle.dominance.proofs.laws.dominance_order.Goals as goal

pub returns-clause-itself : goal.returns-clause-itself
returns-clause-itself c = over-itself

pub returns-clause-through : goal.returns-clause-through
returns-clause-through c = over-through
