use Rattle.formula_nets.proofs.Deciding.{witnesses-right}
use Rattle.formula_nets.proofs.laws.witnesses_decide.Goals as goal

pub returns : goal.returns
returns c = witnesses-right
