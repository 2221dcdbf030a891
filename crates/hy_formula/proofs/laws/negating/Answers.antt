use Rattle.hy_formula.proofs.Choices.{negated-below}
use Rattle.hy_formula.proofs.laws.negating.Goals as goal

pub returns : goal.returns
returns c = negated-below
