use Rattle.std.proofs.Common.{◌≡◌, ◌<◌, All}
use Rattle.hy_base.specs.Rows.{listed}
use Rattle.bound_search.specs.Sheets.{member_at}
use Rattle.bound_search.proofs.tuples.tuple_at.Given as goal

abbrev pub invariant-loop-v : goal.invariant-loop-v
invariant-loop-v l = record {
  tuple : l.tuple ≡ listed 0 l.v (member_at l.frame.traces l.variables l.place);
  members : All (λ k. k < l.frame.traces) l.tuple;
}
