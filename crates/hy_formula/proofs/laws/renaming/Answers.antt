use Rattle.hy_formula.proofs.Renaming.{renamed-right}
use Rattle.hy_formula.proofs.laws.renaming.Goals as goal

pub returns : goal.returns
returns c = renamed-right
