use Rattle.free_net.proofs.Planning.{formulas-reduced}
use Rattle.free_net.proofs.laws.formulas_are_reduced.Goals as goal

pub returns : goal.returns
returns c = formulas-reduced
