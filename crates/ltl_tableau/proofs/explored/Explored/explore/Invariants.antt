use Rattle.std.proofs.Common.{◌≡◌, ◌<◌, ◌≤◌, ℕ, length, map, take}
use Rattle.std.specs.List.{Contains}
use Rattle.ltl_tableau.specs.Reached.{Explores, Grows, branch_at}
use Rattle.ltl_tableau.proofs.explored.Explored.explore.Given as goal

-- the branches so far are added
abbrev pub invariant-loop-branch : goal.invariant-loop-branch
invariant-loop-branch g l =
    record {
      explores : Explores l.c.nodes l.self.sets.keys l.self.branches.keys;
      groups : l.self.groups ≡ l.initial.self.groups;
      few : length l.self.branches.keys ≤ l.states;
      grows : Grows l.initial.self.sets.keys l.initial.self.branches.keys l.self.sets.keys l.self.branches.keys;
      inside : (v : ℕ) → Contains l.members v → v < length l.self.branches.keys;
      right : map (branch_at l.self.branches.keys) l.members ≡ take l.branch-index l.branch-items;
    }
