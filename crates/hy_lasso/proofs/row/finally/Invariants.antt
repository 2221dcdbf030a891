use Rattle.hy_formula.specs.Temporal.{endless, IsUntil}
use Rattle.hy_lasso.specs.Rows.{Says}
use Rattle.hy_lasso.proofs.Rows.{Told}
use Rattle.hy_lasso.proofs.row.finally.Given as goal

abbrev pub invariant-loop-i : goal.invariant-loop-i
invariant-loop-i l = Told (IsUntil endless (λ k. Unit {0}) (Says l.stem l.initial.row)) l.initial.row l.row l.later l.i
