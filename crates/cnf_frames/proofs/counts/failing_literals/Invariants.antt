use Rattle.std.proofs.Common.{◌≡◌}
use Rattle.cnf_frames.specs.Counts.{capped, sum_for, one_failing}
use Rattle.cnf_frames.specs.Facts.{fact_at}
use Rattle.cnf_frames.proofs.counts.failing_literals.Given as goal

-- those so far are counted
abbrev pub invariant-loop-fact : goal.invariant-loop-fact
invariant-loop-fact l =
    l.literals ≡ capped (sum_for (λ i. one_failing (fact_at l.facts i)) l.fact-index)
