use Rattle.ltl_tableau.proofs.Opposing.{OppositesBelow}
use Rattle.ltl_tableau.proofs.links.opposites.Given as goal

abbrev pub invariant-loop-k : goal.invariant-loop-k
invariant-loop-k l = OppositesBelow l.c.nodes l.k l.list
