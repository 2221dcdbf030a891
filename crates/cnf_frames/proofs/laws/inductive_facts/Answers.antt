use Rattle.cnf_frames.proofs.Concluding.{kept-inductive}
use Rattle.cnf_frames.proofs.Surviving.{together}
use Rattle.cnf_frames.proofs.laws.inductive_facts.Goals as goal

pub returns-clause-kept : goal.returns-clause-kept
returns-clause-kept c = kept-inductive

pub returns-clause-together : goal.returns-clause-together
returns-clause-together c = together
