use Rattle.std.proofs.Common.{◌+◌, ◌-◌, ◌*◌, length}
use Rattle.sat_core.specs.Searches.{IsSound, IsSearching}
use Rattle.sat_core.proofs.solving.Search.run.Given as goal

abbrev pub invariant-searching : goal.invariant-searching
invariant-searching l = record {
  sound : IsSound l.self;
  is : IsSearching l.fn.self.solver.partial.variables l.fn.self.solver.clauses l.conflicts
      l.self.solver l.log;
}

abbrev pub decreases-searching : goal.decreases-searching
decreases-searching l = (l.conflicts - length l.log) * (l.fn.self.solver.partial.variables + 1) +
    (l.fn.self.solver.partial.variables - length l.self.solver.partial.literals)
