use Rattle.cnf_frames.proofs.Surviving.{survives}
use Rattle.cnf_frames.proofs.laws.facts_survive.Goals as goal

pub returns : goal.returns
returns c = survives
