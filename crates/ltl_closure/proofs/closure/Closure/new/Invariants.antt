use Rattle.std.proofs.Common.{◌≤◌, length, take}
use Rattle.ltl_closure.specs.Jobs.{tasks_of}
use Rattle.ltl_closure.specs.Numbered.{Visited}
use Rattle.ltl_closure.proofs.closure.Closure.new.Given as goal

-- the tasks of the jobs so far are visited
abbrev pub invariant-loop-job : goal.invariant-loop-job
invariant-loop-job l =
    record {
      few : length l.numbering.members.keys ≤ 1024;
      visited : Visited (tasks_of (take l.job-index l.jobs)) l.numbering l.roots;
    }
