use Rattle.std.proofs.Common.{◌≡◌, length}
use Rattle.aig_order.proofs.taking.no_users.Given as goal

abbrev pub invariant-loop : goal.invariant-loop
invariant-loop l = length l.users.items ≡ l.index
