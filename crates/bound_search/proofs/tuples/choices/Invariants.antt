use Rattle.std.proofs.Common.{◌≡◌, ◌*◌, ◌^◌, ◌≤◌}
use Rattle.bound_search.proofs.tuples.choices.Given as goal

abbrev pub invariant-loop-variable : goal.invariant-loop-variable
invariant-loop-variable l = record {
  few : l.all ≤ 4 * 2147483647;
  count : l.all ≡ l.frame.traces ^ l._variable;
}
