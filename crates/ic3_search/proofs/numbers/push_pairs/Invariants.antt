use Rattle.std.proofs.Common.{◌+◌, ◌≤◌}
use Rattle.ic3_search.proofs.numbers.push_pairs.Given as goal

abbrev pub invariant-loop-variable : goal.invariant-loop-variable
invariant-loop-variable l = l.all ≤ l.many + l.variable
