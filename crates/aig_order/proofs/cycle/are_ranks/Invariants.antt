use Rattle.std.proofs.Common.{◌≡◌, ℕ, ◌<◌, ◌≤◌, true, length}
use Rattle.std.specs.Prelude.{slice_index}
use Rattle.aig_order.specs.Gates.{uses}
use Rattle.aig_order.proofs.cycle.are_ranks.Given as goal

-- none before uses one of a higher rank
abbrev pub invariant-loop-k : goal.invariant-loop-k
invariant-loop-k l = (k j : ℕ) → k < l.k → j < length l.gates → uses l.gates k j ≡ true → slice_index l.ranks j ≤ slice_index l.ranks k
