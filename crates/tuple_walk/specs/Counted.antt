-- A monitor that is stepped on one counter, as contracts see it.
use Rattle.fin_monitor.specs.Machines.{Machine}
use Rattle.fin_monitor.specs.Seen.{machine_of}
use Rattle.tuple_walk.specs.declared.counted_monitor.CountedMonitor.{CountedMonitor}

abbrev pub machine_on : {L : Type 0} → CountedMonitor L → Machine
machine_on m = machine_of m.monitor.now
