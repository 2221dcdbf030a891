use Rattle.rv_watch.proofs.Inputs.{inputs-once}
use Rattle.rv_watch.proofs.laws.one_answer.Goals as goal

pub returns : goal.returns
returns c q specs table bytes said more a b one two = inputs-once q specs table bytes said more a b one two
