use Rattle.std.proofs.Common.{not}
use Rattle.hy_lasso.specs.Rows.{value_at}
use Rattle.hy_lasso.proofs.Rows.{Rewritten}
use Rattle.hy_lasso.proofs.row.negate.Given as goal

abbrev pub invariant-loop-i : goal.invariant-loop-i
invariant-loop-i l = Rewritten l.initial.row l.row (λ k. not (value_at l.initial.row k)) l.i
