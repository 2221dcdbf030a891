use Rattle.std.proofs.Common.{◌≡◌, ◌++◌}
use Rattle.cnf_frames.specs.Queries.{apart_from, pair_start}
use Rattle.chain_check.specs.FewClauses.{for_each}
use Rattle.cnf_frames.proofs.stating.add_all_apart.Given as goal

-- those so far are added, and the next further variable is that of the next frame
abbrev pub invariant-loop-i : goal.invariant-loop-i
invariant-loop-i l =
    (l.cnf.variables ≡ l.initial.cnf.variables)
    × (l.cnf.clauses ≡ l.initial.cnf.clauses ++ for_each (apart_from l.net l.k) l.i)
    × (l.d ≡ pair_start l.net l.k l.i 0)
