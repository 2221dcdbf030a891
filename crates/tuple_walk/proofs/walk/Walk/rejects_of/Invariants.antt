use Rattle.std.proofs.Common.{◌≡◌, ◌+◌, ◌<◌}
use Rattle.fin_monitor.specs.Machines.{states_of}
use Rattle.tuple_walk.specs.Alone.{left_of}
use Rattle.tuple_walk.specs.Searches.{state_over}
use Rattle.tuple_walk.specs.Walks.{machine_in}
use Rattle.tuple_walk.proofs.walk.Walk.rejects_of.Given as goal

abbrev pub invariant-loop-i : goal.invariant-loop-i
invariant-loop-i g l =
    record {
      over : l.state ≡ state_over (machine_in l.self) l.q (left_of l.rests) l.i;
      within : l.state < states_of (machine_in l.self);
      counted : l.steps ≡ l.fn.steps + l.i;
    }
