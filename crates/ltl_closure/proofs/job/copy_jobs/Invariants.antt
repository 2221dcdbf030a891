use Rattle.std.proofs.Common.{◌≡◌, take}
use Rattle.ltl_closure.specs.Jobs.{plain_jobs}
use Rattle.ltl_closure.proofs.job.copy_jobs.Given as goal

abbrev pub invariant-loop-job : goal.invariant-loop-job
invariant-loop-job l = plain_jobs l.made ≡ plain_jobs (take l.job-index l.jobs)
