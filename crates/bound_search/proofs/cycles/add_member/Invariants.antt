use Rattle.std.proofs.Common.{◌≡◌, ◌++◌}
use Rattle.chain_check.specs.FewClauses.{for_each}
use Rattle.bound_search.specs.Queries.{cycle_clauses}
use Rattle.bound_search.proofs.cycles.add_member.Given as goal

abbrev pub invariant-loop-d : goal.invariant-loop-d
invariant-loop-d l = l.clauses ≡ l.initial.clauses
    ++ for_each (cycle_clauses l.names l.bound l.t) l.d
