use Rattle.std.proofs.Common.{◌≡◌, ◌++◌}
use Rattle.chain_check.specs.FewClauses.{for_each}
use Rattle.bound_search.specs.Queries.{member_clauses}
use Rattle.bound_search.proofs.cycles.add_members.Given as goal

abbrev pub invariant-loop-t : goal.invariant-loop-t
invariant-loop-t l = l.clauses ≡ l.initial.clauses
    ++ for_each (member_clauses l.names l.bound) l.t
