use Rattle.std.proofs.Common.{◌<◌}
use Rattle.invar_find.specs.Standing.{Spares}
use Rattle.invar_find.proofs.walking.Walker.walk.Given as goal

abbrev pub invariant-loop-step : goal.invariant-loop-step
invariant-loop-step l = record {
  spares : Spares l.safe.net l.fn.seen l.seen;
  patience : 0 < l.patience;
}
