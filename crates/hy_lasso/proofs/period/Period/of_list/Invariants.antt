use Rattle.std.proofs.Common.{take}
use Rattle.hy_lasso.specs.Joint.{IsLeastPeriod}
use Rattle.hy_lasso.proofs.period.Period.of_list.Given as goal

-- the period of the front
abbrev pub invariant-loop-lasso : goal.invariant-loop-lasso
invariant-loop-lasso l = IsLeastPeriod (take l.lasso-index l.lasso-items) l.period.stem l.period.cycle
