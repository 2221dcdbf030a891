use Rattle.std.proofs.Common.{◌≡◌, ◌<◌, ℕ, true, false, length, [], ◌^◌}
use Rattle.aig_order.specs.Gates.{waits}
use Rattle.aig_order.specs.Takings.{has}
use Rattle.aig_order.proofs.taking.first_ready.Given as goal

abbrev pub invariant-loop-k : goal.invariant-loop-k
invariant-loop-k l = record {
  sound : (j : ℕ) → j < 2 ^ 32 → has l.ready j ≡ true → (j < length l.gates) × (waits l.gates [] j ≡ false);
  full : (j : ℕ) → j < l.k → waits l.gates [] j ≡ false → has l.ready j ≡ true;
}
