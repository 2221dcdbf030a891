use Rattle.std.proofs.Common.{◌≡◌, ◌+◌, ◌-◌, ◌*◌, ◌≤◌, length}
use Rattle.sat_core.specs.Searches.{IsSound}
use Rattle.sat_core.specs.Sessions.{IsLearned, AreAssumed, AreFirstTrue}
use Rattle.sat_core.proofs.solving.Search.ask.Given as goal

abbrev pub invariant-asking : goal.invariant-asking
invariant-asking l = record {
  sound : IsSound l.self;
  same : l.self.solver.partial.variables ≡ l.fn.self.solver.partial.variables;
  learned : IsLearned l.fn.self.solver.clauses l.self.solver.clauses;
  few : l.learned ≤ l.conflicts;
  passed : l.passed ≤ length l.assumptions;
  assumed : AreAssumed l.self.solver l.assumptions;
  first : AreFirstTrue l.self.solver.partial.literals l.assumptions l.passed;
}

abbrev pub decreases-asking : goal.decreases-asking
decreases-asking l = (l.conflicts - l.learned) * (l.fn.self.solver.partial.variables + 1) +
    (l.fn.self.solver.partial.variables - length l.self.solver.partial.literals)
