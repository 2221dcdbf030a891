use Rattle.fin_monitor.specs.Seen.{machine_of}
use Rattle.dominance.specs.Telling.{AreTold}
use Rattle.dominance.proofs.telling.told_names.Given as goal

abbrev pub invariant-loop-i : goal.invariant-loop-i
invariant-loop-i g l = AreTold (machine_of l.m) l.place l.names
