use Rattle.cnf_frames.proofs.Fewness.{few-clauses}
use Rattle.cnf_frames.proofs.laws.clauses_are_few.Goals as goal

pub returns : goal.returns
returns c = few-clauses
