use Rattle.ltl_tableau.proofs.Walking.{accepting-walk}
use Rattle.ltl_tableau.proofs.laws.accepting_walk.Goals as goal

pub returns : goal.returns
returns c nodes form words s p roots repeats numbers start = accepting-walk nodes form words s p repeats numbers roots start
