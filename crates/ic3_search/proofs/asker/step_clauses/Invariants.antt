use Rattle.std.proofs.Common.{◌≡◌}
use Rattle.ic3_search.proofs.asker.step_clauses.Given as goal

abbrev pub invariant-loop-i : goal.invariant-loop-i
invariant-loop-i l = l.cnf.variables ≡ l.count
