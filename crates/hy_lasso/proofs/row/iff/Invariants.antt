use Rattle.std.specs.Bool.{beq}
use Rattle.hy_lasso.specs.Rows.{value_at}
use Rattle.hy_lasso.proofs.Rows.{Rewritten}
use Rattle.hy_lasso.proofs.row.iff.Given as goal

abbrev pub invariant-loop-i : goal.invariant-loop-i
invariant-loop-i l = Rewritten l.initial.left l.left (λ k. beq (value_at l.initial.left k) (value_at l.right k)) l.i
