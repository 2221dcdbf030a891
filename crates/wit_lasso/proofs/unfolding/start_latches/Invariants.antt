use Rattle.std.proofs.Common.{◌≡◌, ◌+◌, ◌*◌}
use Rattle.aig_net.specs.Nets.{reset_at}
use Rattle.hy_base.specs.Rows.{row, listed}
use Rattle.wit_lasso.specs.PathParts.{free_before, start_value}
use Rattle.wit_lasso.proofs.unfolding.start_latches.Given as goal

abbrev pub invariant-loop-reset : goal.invariant-loop-reset
invariant-loop-reset l = record {
  made : l.made ≡ listed 0 l.reset-index
      (λ j. start_value (reset_at l.resets j) (row l.free (free_before l.resets j * l.n + l.c)));
  before : l.before ≡ free_before l.resets l.reset-index;
}
