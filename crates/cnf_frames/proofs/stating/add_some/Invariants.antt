use Rattle.std.proofs.Common.{◌≡◌, ◌+◌, [], ◌∷◌}
use Rattle.chain_check.specs.FewClauses.{for_each, further}
use Rattle.cnf_frames.proofs.stating.add_some.Given as goal

-- those so far are there
abbrev pub invariant-loop-i : goal.invariant-loop-i
invariant-loop-i l = l.clause ≡ for_each (λ i. further (l.d + i) ∷ []) l.i
