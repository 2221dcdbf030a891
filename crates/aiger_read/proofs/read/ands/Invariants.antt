use Rattle.std.proofs.Common.{◌≡◌, map, take}
use Rattle.aig_order.specs.Gates.{gate_at}
use Rattle.aiger_read.specs.Numbers.{numbered}
use Rattle.aiger_read.specs.Readings.{and_by}
use Rattle.aiger_read.proofs.read.ands.Given as goal

abbrev pub invariant-loop-k : goal.invariant-loop-k
invariant-loop-k l = l.list ≡ map (λ k. and_by (numbered l.numbering) (gate_at l.gates k)) (take l.k-index l.order)
