use Rattle.std.proofs.Common.{◌-◌}
use Rattle.k_induct.proofs.UnderWay.{IsUnderWay}
use Rattle.k_induct.proofs.proving.prove.Given as goal

abbrev pub invariant-depths : goal.invariant-depths
invariant-depths l = IsUnderWay l.fn.safe l.fn.inv l.depth l.k l.base

abbrev pub decreases-depths : goal.decreases-depths
decreases-depths l = l.depth - l.k
