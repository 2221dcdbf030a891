use Rattle.aig_net.proofs.Valuations.{valuation-some, valuation-only}
use Rattle.aig_net.proofs.laws.one_valuation.Goals as goal

pub returns-clause-some : goal.returns-clause-some
returns-clause-some c net given good = valuation-some net given good.ordered

pub returns-clause-only : goal.returns-clause-only
returns-clause-only c net v w good = valuation-only net v w good.ordered
