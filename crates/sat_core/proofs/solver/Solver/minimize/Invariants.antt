use Rattle.sat_core.specs.Minimizing.{IsMinimizing}
use Rattle.sat_core.proofs.solver.Solver.minimize.Given as goal

abbrev pub invariant-places : goal.invariant-places
invariant-places l = IsMinimizing l.self.clauses l.self.partial.literals l.start l.p l.q l.analysis
    l.asserting

abbrev pub decreases-places : goal.decreases-places
decreases-places l = l.q
