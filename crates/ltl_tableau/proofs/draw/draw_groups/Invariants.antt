use Rattle.std.proofs.Common.{◌≡◌, ◌<◌, ◌≤◌, ℕ, [], length}
use Rattle.rank_check.specs.Graphs.{members_of}
use Rattle.ltl_tableau.specs.Reached.{group_at}
use Rattle.ltl_tableau.proofs.draw.draw_groups.Given as goal

-- the groups so far are there, and the others have no member
abbrev pub invariant-loop-group : goal.invariant-loop-group
invariant-loop-group l =
    record {
      nodes : l.graph.nodes ≡ l.initial.graph.nodes;
      count : length l.graph.groups ≡ length l.initial.graph.groups;
      filled : (j : ℕ) → j < l.group → members_of l.graph j ≡ group_at l.groups j;
      empty : (j : ℕ) → l.group ≤ j → members_of l.graph j ≡ [];
    }
