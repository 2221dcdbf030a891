use Rattle.hy_formula.proofs.Matching.{matched}
use Rattle.hy_formula.proofs.laws.matching.Goals as goal

pub returns : goal.returns
returns c member other fits ways span elsewhere words told body saying same prefix = matched _ _ _ ways _ _ same prefix
