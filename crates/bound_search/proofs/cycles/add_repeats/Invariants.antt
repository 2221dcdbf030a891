use Rattle.std.proofs.Common.{◌≡◌, ◌++◌}
use Rattle.chain_check.specs.FewClauses.{for_each}
use Rattle.bound_search.specs.Queries.{repeat_clauses}
use Rattle.bound_search.proofs.cycles.add_repeats.Given as goal

abbrev pub invariant-loop-j : goal.invariant-loop-j
invariant-loop-j l = l.clauses ≡ l.initial.clauses
    ++ for_each (repeat_clauses l.names l.fn.bound l.t l.d l.r) l.j
