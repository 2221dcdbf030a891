use Rattle.std.proofs.Common.{◌≡◌, ◌++◌}
use Rattle.cnf_frames.specs.Queries.{fails_clauses}
use Rattle.chain_check.specs.FewClauses.{for_each}
use Rattle.cnf_frames.proofs.stating.add_failings.Given as goal

-- those so far are added
abbrev pub invariant-loop-i : goal.invariant-loop-i
invariant-loop-i l =
    (l.cnf.variables ≡ l.initial.cnf.variables)
    × (l.cnf.clauses ≡ l.initial.cnf.clauses ++ for_each (fails_clauses l.net l.group) l.i)
