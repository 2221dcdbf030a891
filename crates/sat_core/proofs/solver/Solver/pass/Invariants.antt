use Rattle.std.proofs.Common.{◌≡◌, ◌-◌, length}
use Rattle.sat_core.specs.Solvers.{IsReady, GoesOn}
use Rattle.sat_core.proofs.Rounds.{IsPassing}
use Rattle.sat_core.proofs.solver.Solver.pass.Given as goal

abbrev pub invariant-visits : goal.invariant-visits
invariant-visits l = record {
  ready : IsReady l.self;
  goes_on : GoesOn l.initial.self l.self;
  done : l.watches.done ≡ l.initial.watches.done;
  long : length l.watches.pairs.items ≡ length l.initial.watches.pairs.items;
  passing : IsPassing l.self l.initial.watches.done l.watches.pairs.items l.watches.lists l.l l.list
      l.i;
}

abbrev pub decreases-visits : goal.decreases-visits
decreases-visits l = length l.list - l.i
