use Rattle.std.proofs.Common.{◌≡◌, ℕ, ◌<◌, get_or, length}
use Rattle.hy_base.specs.Rows.{row}
use Rattle.hy_lasso.specs.Words.{no_lasso}
use Rattle.bound_search.specs.Spelling.{IsMemberRead}
use Rattle.bound_search.proofs.spelling.Spelling.members.Given as goal

abbrev pub invariant-loop-t : goal.invariant-loop-t
invariant-loop-t l = record {
  long : length l.list ≡ l.t;
  each : (k : ℕ) → k < l.t → IsMemberRead (row l.self.values.now) l.self.names.now l.self.bound k
      (get_or l.list k no_lasso);
}
