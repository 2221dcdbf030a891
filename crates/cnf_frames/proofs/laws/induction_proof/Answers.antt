use Rattle.cnf_frames.proofs.Concluding.{proved}
use Rattle.cnf_frames.proofs.laws.induction_proof.Goals as goal

pub returns : goal.returns
returns c = proved
