use Rattle.ea_reduce.proofs.Reducing.{shortened-fulfils}
use Rattle.ea_reduce.proofs.laws.shortening.Goals as goal

pub returns : goal.returns
returns c = shortened-fulfils
