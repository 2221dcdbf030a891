use Rattle.aig_order.specs.Takings.{AreDefiners}
use Rattle.aig_order.proofs.taking.definers.Given as goal

abbrev pub invariant-loop-k : goal.invariant-loop-k
invariant-loop-k l = AreDefiners l.gates l.top l.k l.list
