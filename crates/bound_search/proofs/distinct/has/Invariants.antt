use Rattle.std.proofs.Common.{◌≡◌, ℕ, ◌<◌, get_or}
use Rattle.hy_lasso.specs.Words.{no_lasso}
use Rattle.bound_search.proofs.distinct.has.Given as goal

abbrev pub invariant-loop-known : goal.invariant-loop-known
invariant-loop-known l = (k : ℕ) → k < l.known-index → get_or l.known-items k no_lasso ≡ l.lasso → ⊥
