use Rattle.std.proofs.Common.{ℕ, ◌<◌, get_or}
use Rattle.rank_check.specs.Graphs.{Postpones}
use Rattle.fair_search.proofs.component.free_node.Given as goal

abbrev pub invariant-loop-v : goal.invariant-loop-v
invariant-loop-v l = (k : ℕ) → k < l.v-index → Postpones l.g (get_or l.nodes k 0) l.until
