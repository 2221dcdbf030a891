use Rattle.std.proofs.Common.{◌≡◌, ◌<◌, ℕ, [], length, get_or}
use Rattle.rank_check.specs.Graphs.{members_of, no_node}
use Rattle.ltl_tableau.specs.Reached.{IsNodeOf, branch_at}
use Rattle.ltl_tableau.proofs.draw.draw_nodes.Given as goal

-- the nodes of the branches so far
abbrev pub invariant-loop-branch : goal.invariant-loop-branch
invariant-loop-branch g l =
    record {
      count : length l.graph.nodes ≡ l.branch-index;
      groups : length l.graph.groups ≡ length l.sets.keys;
      empty : (j : ℕ) → members_of l.graph j ≡ [];
      each : (v : ℕ) → v < l.branch-index → IsNodeOf l.c.nodes l.sets.keys (branch_at l.branch-items v) (get_or l.graph.nodes v no_node);
    }
