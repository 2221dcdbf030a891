use Rattle.std.proofs.Common.{◌≡◌, ◌+◌}
use Rattle.hy_base.specs.Rows.{listed}
use Rattle.chain_check.specs.FewClauses.{further}
use Rattle.bound_search.proofs.asked.Asked.letters_row.Given as goal

abbrev pub invariant-loop-i : goal.invariant-loop-i
invariant-loop-i l = l.row ≡ listed 0 l.i (λ k. further (l.start + k))
