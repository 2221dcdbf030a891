use Rattle.std.proofs.Common.{take, ◌++◌}
use Rattle.fin_monitor.specs.Duties.{joined}
use Rattle.fin_monitor.proofs.FamilySteps.{Stands}
use Rattle.fin_monitor.proofs.families.add_joined.Given as goal

abbrev pub invariant-loop-d : goal.invariant-loop-d
invariant-loop-d g l = Stands l.family.items (l.initial.family.items ++ joined (take l.d-index l.list) l.other)
