use Rattle.std.proofs.Common.{◌≡◌, ◌/◌, ◌++◌, map, take}
use Rattle.aig_order.specs.Gates.{gate_at}
use Rattle.aiger_read.proofs.read.push_gates.Given as goal

abbrev pub invariant-loop-k : goal.invariant-loop-k
invariant-loop-k l = l.list ≡ l.fn.list ++ map (λ k. (gate_at l.gates k).lhs / 2) (take l.k-index l.order)
