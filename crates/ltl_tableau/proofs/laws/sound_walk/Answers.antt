use Rattle.ltl_tableau.proofs.Gone.{walk-sound}
use Rattle.ltl_tableau.proofs.laws.sound_walk.Goals as goal

pub returns : goal.returns
returns c = walk-sound
