use Rattle.dominance.proofs.Replacements.{violates-kept, violates-leaders}
use Rattle.dominance.proofs.laws.replacing.Goals as goal

pub returns-clause-any : goal.returns-clause-any
returns-clause-any c = violates-kept

pub returns-clause-leaders : goal.returns-clause-leaders
returns-clause-leaders c = violates-leaders
