use Rattle.std.proofs.Common.{◌≡◌, ◌++◌}
use Rattle.cnf_frames.specs.Queries.{fact_clauses}
use Rattle.chain_check.specs.FewClauses.{for_each}
use Rattle.cnf_frames.specs.Facts.{fact_at}
use Rattle.cnf_frames.proofs.stating.add_facts.Given as goal

-- those so far are added
abbrev pub invariant-loop-fact : goal.invariant-loop-fact
invariant-loop-fact l =
    (l.cnf.variables ≡ l.initial.cnf.variables)
    × (l.cnf.clauses ≡ l.initial.cnf.clauses ++ for_each (λ i. fact_clauses l.net l.frame (fact_at l.facts i))
    l.fact-index)
