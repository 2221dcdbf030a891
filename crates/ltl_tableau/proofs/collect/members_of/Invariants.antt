use Rattle.ltl_tableau.proofs.Cutting.{FirstOf}
use Rattle.ltl_tableau.proofs.collect.members_of.Given as goal

abbrev pub invariant-loop-k : goal.invariant-loop-k
invariant-loop-k g l = FirstOf l.k l.s l.members
