use Rattle.std.proofs.Common.{◌≡◌, ◌++◌}
use Rattle.std.specs.Prelude.{neg_ℤ}
use Rattle.cnf_frames.specs.Queries.{latch_in}
use Rattle.chain_check.specs.FewClauses.{for_each, alone}
use Rattle.cnf_frames.proofs.frames.add_start.Given as goal

-- those so far are added
abbrev pub invariant-loop-i : goal.invariant-loop-i
invariant-loop-i l =
    (l.cnf.variables ≡ l.initial.cnf.variables)
    × (l.cnf.clauses ≡ l.initial.cnf.clauses
    ++ for_each (λ i. alone (neg_ℤ (latch_in l.net 0 i))) l.i)
