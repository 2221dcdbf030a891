use Rattle.std.proofs.Common.{◌≤◌, ◌-◌}
use Rattle.k_induct.specs.Verdicts.{IsGoodBelow}
use Rattle.k_induct.proofs.searching.shortest.Given as goal

abbrev pub invariant-depths : goal.invariant-depths
invariant-depths l = (l.k ≤ l.depth) × IsGoodBelow l.fn.safe l.k

abbrev pub decreases-depths : goal.decreases-depths
decreases-depths l = l.depth - l.k
