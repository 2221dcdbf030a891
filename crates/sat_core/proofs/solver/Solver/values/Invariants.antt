use Rattle.sat_core.specs.Outcomes.{AreValues}
use Rattle.sat_core.proofs.solver.Solver.values.Given as goal

abbrev pub invariant-loop-place : goal.invariant-loop-place
invariant-loop-place l = AreValues l.place l.self.partial.literals l.values
