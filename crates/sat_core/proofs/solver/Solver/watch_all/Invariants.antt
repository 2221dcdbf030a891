use Rattle.std.proofs.Common.{◌≡◌, length}
use Rattle.sat_core.specs.Solvers.{IsReady, GoesOn}
use Rattle.sat_core.specs.Watches.{IsWatching}
use Rattle.sat_core.proofs.solver.Solver.watch_all.Given as goal

abbrev pub invariant-loop-place : goal.invariant-loop-place
invariant-loop-place l = record {
  ready : IsReady l.self;
  goes_on : GoesOn l.initial.self l.self;
  done : l.watches.done ≡ 0;
  long : length l.watches.pairs.items ≡ l.place;
  watching : IsWatching l.self 0 l.watches.pairs.items l.watches.lists;
}
