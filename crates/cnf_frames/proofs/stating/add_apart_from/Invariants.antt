use Rattle.std.proofs.Common.{◌≡◌, suc, ◌+◌, ◌++◌}
use Rattle.cnf_frames.specs.Queries.{apart_clauses, pair_start}
use Rattle.chain_check.specs.FewClauses.{for_each}
use Rattle.cnf_frames.proofs.stating.add_apart_from.Given as goal

-- those so far are added
abbrev pub invariant-loop-q : goal.invariant-loop-q
invariant-loop-q l =
    (l.cnf.variables ≡ l.initial.cnf.variables)
    × (l.cnf.clauses ≡ l.initial.cnf.clauses ++ for_each (λ q. apart_clauses l.net l.i (suc l.i + q) (pair_start l.net l.k l.i q))
    l.q)
