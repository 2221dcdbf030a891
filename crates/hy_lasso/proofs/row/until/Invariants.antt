use Rattle.hy_formula.specs.Temporal.{endless, IsUntil}
use Rattle.hy_lasso.specs.Rows.{Says}
use Rattle.hy_lasso.proofs.Rows.{Told}
use Rattle.hy_lasso.proofs.row.until.Given as goal

abbrev pub invariant-loop-i : goal.invariant-loop-i
invariant-loop-i l = Told (IsUntil endless (Says l.stem l.left) (Says l.stem l.initial.right)) l.initial.right l.right l.later l.i
