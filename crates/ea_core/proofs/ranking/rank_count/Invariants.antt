use Rattle.std.proofs.Common.{ℕ, ◌<◌, ◌≤◌, ◌^◌, take}
use Rattle.std.specs.List.{All}
use Rattle.ea_core.proofs.ranking.rank_count.Given as goal

abbrev pub invariant-loop-entry : goal.invariant-loop-entry
invariant-loop-entry l = record {
  below : All (λ b. b.rank < l.count) (take l.entry-index l.entries);
  least : (n : ℕ) → All (λ b. b.rank < n) l.entries → l.count ≤ n;
  few : l.count ≤ 2 ^ 32;
}
