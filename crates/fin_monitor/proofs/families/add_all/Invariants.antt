use Rattle.std.proofs.Common.{take, ◌++◌}
use Rattle.fin_monitor.proofs.FamilySteps.{Stands}
use Rattle.fin_monitor.proofs.families.add_all.Given as goal

abbrev pub invariant-loop-d : goal.invariant-loop-d
invariant-loop-d g l = Stands l.family.items (l.initial.family.items ++ take l.d-index l.list)
