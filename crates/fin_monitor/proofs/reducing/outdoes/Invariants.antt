use Rattle.std.proofs.Common.{◌<◌, length}
use Rattle.fin_monitor.specs.Reductions.{Outdoes}
use Rattle.fin_monitor.proofs.reducing.outdoes.Given as goal

abbrev pub invariant-loop-step : goal.invariant-loop-step
invariant-loop-step l =
    record {
      there : l.part < length l.closure.nodes;
      outdoes : Outdoes l.closure.nodes l.k l.part;
    }
