use Rattle.std.proofs.Common.{◌≡◌, ◌-◌, length}
use Rattle.sat_core.specs.Solvers.{IsReady, GoesOn}
use Rattle.sat_core.specs.Watches.{IsWatching}
use Rattle.sat_core.proofs.solver.Solver.propagate.Given as goal

abbrev pub invariant-places : goal.invariant-places
invariant-places l = record {
  ready : IsReady l.self;
  goes_on : GoesOn l.initial.self l.self;
  long : length l.watches.pairs.items ≡ length l.initial.watches.pairs.items;
  watching : IsWatching l.self l.watches.done l.watches.pairs.items l.watches.lists;
}

abbrev pub decreases-places : goal.decreases-places
decreases-places l = l.initial.self.partial.variables - l.watches.done
