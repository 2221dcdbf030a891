use Rattle.cnf_frames.proofs.Inducing.{never-bad}
use Rattle.cnf_frames.proofs.laws.induction.Goals as goal

pub returns : goal.returns
returns c safe facts k inductive base step = never-bad safe facts inductive k base step
