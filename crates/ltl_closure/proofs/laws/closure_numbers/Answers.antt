use Rattle.ltl_closure.proofs.Closing.{closure-numbers}
use Rattle.ltl_closure.proofs.laws.closure_numbers.Goals as goal

pub returns : goal.returns
returns c = closure-numbers
