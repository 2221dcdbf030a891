use Rattle.sat_core.specs.Sessions.{AreFirstTrue}
use Rattle.sat_core.proofs.solving.Search.next_place.Given as goal

abbrev pub invariant-loop-place : goal.invariant-loop-place
invariant-loop-place l = AreFirstTrue l.self.solver.partial.literals l.assumptions l.place
