use Rattle.std.proofs.Common.{◌≤◌, ◌++◌, List, length, take}
use Rattle.hy_formula.specs.Trees.{tree_of}
use Rattle.ltl_closure.specs.Jobs.{Task, tasks_by}
use Rattle.ltl_closure.specs.Numbered.{Visited}
use Rattle.ltl_closure.proofs.closure.visit_job.Given as goal

-- the tasks of the maps so far are visited
abbrev pub invariant-loop-map : goal.invariant-loop-map
invariant-loop-map l =
    record {
      few : length l.numbering.members.keys ≤ 1024;
      visited : (tasks : List Task) → Visited tasks l.initial.numbering l.initial.roots
          → Visited (tasks ++ tasks_by (tree_of l.job.body) l.job.positive (take l.map-index l.job.maps)) l.numbering l.roots;
    }
