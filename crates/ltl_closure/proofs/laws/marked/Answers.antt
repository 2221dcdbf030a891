use Rattle.ltl_closure.proofs.Marking.{marks-hold}
use Rattle.ltl_closure.proofs.laws.marked.Goals as goal

pub returns : goal.returns
returns c = marks-hold
