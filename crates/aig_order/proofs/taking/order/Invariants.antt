use Rattle.std.proofs.Common.{◌≡◌}
use Rattle.aig_order.specs.Gates.{taken}
use Rattle.aig_order.specs.Takings.{AreTaken}
use Rattle.aig_order.proofs.taking.order.Given as goal

abbrev pub invariant-loop : goal.invariant-loop
invariant-loop l = record {
  order : l.taking.order ≡ taken l.gates l.index;
  are : AreTaken l.gates l.taking.order l.taking.taken l.taking.ready;
}
