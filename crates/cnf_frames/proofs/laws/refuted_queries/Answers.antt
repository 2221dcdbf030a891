use Rattle.cnf_frames.proofs.Concluding.{none-answers}
use Rattle.cnf_frames.proofs.laws.refuted_queries.Goals as goal

pub returns : goal.returns
returns c = none-answers
