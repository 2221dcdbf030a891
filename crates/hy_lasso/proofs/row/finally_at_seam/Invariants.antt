use Rattle.std.proofs.Common.{◌≤◌, length}
use Rattle.std.specs.Bool.{Decides}
use Rattle.hy_formula.specs.Temporal.{below, IsUntil}
use Rattle.hy_lasso.specs.Rows.{Says}
use Rattle.hy_lasso.proofs.row.finally_at_seam.Given as goal

abbrev pub invariant-loop-i : goal.invariant-loop-i
invariant-loop-i l = (l.stem ≤ l.i) × Decides l.later (IsUntil (below (length l.row)) (λ k. Unit {0}) (Says l.stem l.row) l.i)
