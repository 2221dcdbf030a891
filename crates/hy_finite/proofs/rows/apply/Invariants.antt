use Rattle.hy_finite.proofs.RowSteps.{Applying}
use Rattle.hy_finite.proofs.rows.apply.Given as goal

abbrev pub invariant-loop-k : goal.invariant-loop-k
invariant-loop-k l = Applying l.rule l.initial.rows l.rows l.base l.other l.k l.carry
