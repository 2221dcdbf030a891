use Rattle.std.proofs.Common.{take, ◌++◌, map}
use Rattle.fin_monitor.specs.Duties.{both}
use Rattle.fin_monitor.proofs.FamilySteps.{Stands}
use Rattle.fin_monitor.proofs.families.add_with.Given as goal

abbrev pub invariant-loop-e : goal.invariant-loop-e
invariant-loop-e g l = Stands l.family.items (l.initial.family.items ++ map (both l.d) (take l.e-index l.list))
