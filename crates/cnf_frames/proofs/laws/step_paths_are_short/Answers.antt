use Rattle.cnf_frames.proofs.States.{short-step}
use Rattle.cnf_frames.proofs.laws.step_paths_are_short.Goals as goal

pub returns : goal.returns
returns c safe facts k word is = short-step safe facts k word is
