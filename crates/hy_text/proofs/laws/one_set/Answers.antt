use Rattle.hy_text.proofs.Once.{one-set}
use Rattle.hy_text.proofs.laws.one_set.Goals as goal

pub returns : goal.returns
returns c = one-set
