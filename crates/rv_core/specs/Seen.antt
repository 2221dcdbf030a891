-- A monitor as contracts see it.
use Rattle.std.specs.Prelude.{List, map, reverse}
use Rattle.fin_monitor.specs.Machines.{Machine}
use Rattle.fin_monitor.specs.Seen.{machine_of}
use Rattle.rv_core.specs.declared.watch.Watch.{Watch}
use Rattle.rv_core.specs.declared.rv.Rv.{Rv}
use Rattle.rv_core.specs.Held.{Held}

abbrev pub watched : Watch → Machine
watched w = machine_of w.monitor

abbrev pub watched_by : List Watch → List Machine
watched_by watches = map watched watches

abbrev pub held : Rv → Held
held rv =
    record {
      rule = rv.rule;
      drop = rv.drop_dominated;
      machines = watched_by rv.watches;
      arrived = rv.traces;
      kept = rv.kept;
      sessions = rv.sessions;
      saves = reverse rv.saves;
      clean = rv.clean;
    }
