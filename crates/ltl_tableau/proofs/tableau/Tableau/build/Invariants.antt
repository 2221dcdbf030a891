use Rattle.std.proofs.Common.{◌≡◌, ◌≤◌, ◌-◌, suc, length}
use Rattle.ltl_tableau.specs.Reached.{Explores, AreGroups, set_at}
use Rattle.ltl_tableau.proofs.tableau.Tableau.build.Given as goal

-- the branches of the sets so far are found
abbrev pub invariant-loop-explored : goal.invariant-loop-explored
invariant-loop-explored g l =
    record {
      explores : Explores l.c.nodes l.explored.sets.keys l.explored.branches.keys;
      groups : AreGroups l.c.nodes l.states l.explored.sets.keys l.explored.branches.keys l.explored.groups;
      few : length l.explored.branches.keys ≤ l.states;
      fewer : length l.explored.groups ≤ length l.explored.sets.keys;
      root : set_at l.explored.sets.keys 0 ≡ set_at l.initial.explored.sets.keys 0;
    }

abbrev pub decreases-loop-explored : goal.decreases-loop-explored
decreases-loop-explored g l = suc l.states - length l.explored.groups
