use Rattle.ltl_tableau.specs.Drafts.{Settles}
use Rattle.ltl_tableau.proofs.settle.Draft.settle.Given as goal

abbrev pub invariant-loop : goal.invariant-loop
invariant-loop g l = Settles l.c.nodes l.initial.self l.self
