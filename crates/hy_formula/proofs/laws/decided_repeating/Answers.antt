use Rattle.hy_formula.proofs.Repeating.{decided-repeating}
use Rattle.hy_formula.proofs.laws.decided_repeating.Goals as goal

pub returns : goal.returns
returns c = decided-repeating
