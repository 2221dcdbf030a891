use Rattle.std.proofs.Common.{◌≡◌}
use Rattle.wit_lasso.specs.PathParts.{free_before}
use Rattle.wit_lasso.proofs.unfolding.free_latches.Given as goal

abbrev pub invariant-loop-reset : goal.invariant-loop-reset
invariant-loop-reset l = l.free ≡ free_before l.resets l.reset-index
