use Rattle.std.proofs.Common.{◌≡◌, ◌++◌, ◌-◌, suc}
use Rattle.chain_check.specs.FewClauses.{for_each}
use Rattle.bound_search.specs.Queries.{repeat_clauses, round}
use Rattle.bound_search.proofs.cycles.add_cycle.Given as goal

abbrev pub invariant-loop-r : goal.invariant-loop-r
invariant-loop-r l = l.clauses ≡ l.initial.clauses
    ++ for_each (λ r. for_each (repeat_clauses l.names l.bound l.t l.d r) (round l.bound - suc l.d))
    l.r
