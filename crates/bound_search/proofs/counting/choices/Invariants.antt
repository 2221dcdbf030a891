use Rattle.std.proofs.Common.{◌≡◌, ◌^◌, min}
use Rattle.bound_search.specs.Sizes.{most_gates}
use Rattle.bound_search.proofs.counting.choices.Given as goal

abbrev pub invariant-loop-variable : goal.invariant-loop-variable
invariant-loop-variable l = l.all ≡ min (l.traces ^ l._variable) most_gates
