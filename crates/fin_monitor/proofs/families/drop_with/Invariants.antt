use Rattle.std.proofs.Common.{not}
use Rattle.std.proofs.lemmas.List.Filters.{FiltersInPlace}
use Rattle.fin_monitor.specs.Duties.{Duty, within}
use Rattle.fin_monitor.proofs.families.drop_with.Given as goal

abbrev pub invariant-loop-i : goal.invariant-loop-i
invariant-loop-i g l = FiltersInPlace (λ (e : Duty). not (within l.d e)) l.initial.family.items l.family.items l.kept l.i
