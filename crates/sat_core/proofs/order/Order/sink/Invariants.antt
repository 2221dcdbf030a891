use Rattle.std.proofs.Common.{◌<◌, ◌-◌, length}
use Rattle.sat_core.proofs.order.Order.sink.Given as goal

abbrev pub invariant-loop-place : goal.invariant-loop-place
invariant-loop-place l = record {
  inside : l.place < l.self.size;
  variable : l.variable < length l.self.activities.items;
}

abbrev pub decreases-loop-place : goal.decreases-loop-place
decreases-loop-place l = l.self.size - l.place
