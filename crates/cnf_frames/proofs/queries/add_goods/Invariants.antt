use Rattle.std.proofs.Common.{◌≡◌, ◌++◌}
use Rattle.cnf_frames.specs.Queries.{good_clauses}
use Rattle.chain_check.specs.FewClauses.{for_each}
use Rattle.cnf_frames.proofs.queries.add_goods.Given as goal

-- those so far are added
abbrev pub invariant-loop-frame : goal.invariant-loop-frame
invariant-loop-frame l =
    (l.cnf.variables ≡ l.initial.cnf.variables)
    × (l.cnf.clauses ≡ l.initial.cnf.clauses ++ for_each (good_clauses l.safe l.facts) l.frame)
