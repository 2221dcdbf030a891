use Rattle.std.proofs.Common.{◌≡◌, ◌+◌, [], ◌∷◌}
use Rattle.chain_check.specs.FewClauses.{for_each, further}
use Rattle.bound_search.proofs.cycles.add_some_cycle.Given as goal

abbrev pub invariant-loop-d : goal.invariant-loop-d
invariant-loop-d l = l.clause ≡ for_each (λ i. further (l.start + i) ∷ []) l.d
