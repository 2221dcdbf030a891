use Rattle.std.proofs.Common.{ℕ, ◌<◌}
use Rattle.rank_check.specs.Ranking.{Follows}
use Rattle.rank_check.proofs.check.check_ranks.Given as goal

abbrev pub invariant-loop-node : goal.invariant-loop-node
invariant-loop-node l = (v : ℕ) → v < l.node → Follows l.g l.r v
