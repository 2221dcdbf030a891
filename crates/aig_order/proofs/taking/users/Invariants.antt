use Rattle.aig_order.specs.Takings.{AreUsers}
use Rattle.aig_order.proofs.taking.users.Given as goal

abbrev pub invariant-loop-k : goal.invariant-loop-k
invariant-loop-k l = AreUsers l.gates l.k l.users.items
