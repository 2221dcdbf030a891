use Rattle.std.proofs.Common.{◌≡◌, ◌<◌, length}
use Rattle.std.specs.List.{All}
use Rattle.sat_core.proofs.order.Order.new.Given as goal

abbrev pub invariant-loop-variable : goal.invariant-loop-variable
invariant-loop-variable l = record {
  placed : length l.places.items ≡ l.variable;
  long : length l.heap.items ≡ l.variable;
  right : All (λ v. v < l.count) l.heap.items;
}
