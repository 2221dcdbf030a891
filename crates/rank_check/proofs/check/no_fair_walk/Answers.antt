use Rattle.rank_check.proofs.Refuting.{no-fair}
use Rattle.rank_check.proofs.check.no_fair_walk.Goals as goal

pub returns : goal.returns
returns c = no-fair
