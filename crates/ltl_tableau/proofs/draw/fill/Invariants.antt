use Rattle.std.proofs.Common.{◌≡◌, ◌≢◌, ℕ, length, take}
use Rattle.rank_check.specs.Graphs.{members_of}
use Rattle.ltl_tableau.proofs.draw.fill.Given as goal

-- the members so far are in the group
abbrev pub invariant-loop-member : goal.invariant-loop-member
invariant-loop-member l =
    record {
      nodes : l.graph.nodes ≡ l.initial.graph.nodes;
      count : length l.graph.groups ≡ length l.initial.graph.groups;
      filled : members_of l.graph l.group ≡ take l.member-index l.member-items;
      others : (j : ℕ) → j ≢ l.group → members_of l.graph j ≡ members_of l.initial.graph j;
    }
