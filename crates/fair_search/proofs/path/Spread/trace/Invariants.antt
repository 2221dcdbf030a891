use Rattle.std.proofs.Common.{ℕ, ◌<◌, length, reverse}
use Rattle.rank_check.specs.Graphs.{Shape, IsEdge}
use Rattle.fair_search.specs.Paths.{IsSpread, IsPath, first_or, reached_at}
use Rattle.fair_search.proofs.path.Spread.trace.Given as goal

abbrev pub invariant-loop-place : goal.invariant-loop-place
invariant-loop-place l = record {
  there : l.place < length l.self.reached;
  path : (g : Shape) (to : ℕ) → IsSpread g l.self.seen l.self.reached
      → IsEdge g (reached_at l.self.reached l.last).node to
      → IsPath g (reverse l.nodes) to × IsEdge g (reached_at l.self.reached l.place).node
      (first_or (reverse l.nodes) to);
}

abbrev pub decreases-loop-place : goal.decreases-loop-place
decreases-loop-place l = l.place
