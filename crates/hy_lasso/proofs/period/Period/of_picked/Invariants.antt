use Rattle.std.proofs.Common.{take}
use Rattle.hy_lasso.specs.Words.{picked}
use Rattle.hy_lasso.specs.Joint.{IsLeastPeriod}
use Rattle.hy_lasso.proofs.period.Period.of_picked.Given as goal

-- the period of those that stand before place k
abbrev pub invariant-loop-k : goal.invariant-loop-k
invariant-loop-k l = IsLeastPeriod (picked l.list (take l.k-index l.pick)) l.period.stem l.period.cycle
