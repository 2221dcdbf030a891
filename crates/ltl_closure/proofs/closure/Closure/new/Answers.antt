use Rattle.std.proofs.Common.{take}
use Rattle.ltl_closure.specs.Jobs.{tasks_of}
use Rattle.ltl_closure.proofs.Tasks.{same-error, limit_jobs, visited_jobs, is-closure}
use Rattle.ltl_closure.proofs.closure.Closure.new.Goals as goal

pub returns-in_err-visit_job-clause-limit : goal.returns-in_err-visit_job-clause-limit
returns-in_err-visit_job-clause-limit c is =
    limit_jobs c.args.jobs.now c.as_slice-job-items.result.now c.loop-job.job-index c.job-item.result c.as_slice-job-items.ensures c.loop-job-test.true c.job-item.is
    (c.in_err-visit_job.ensures.limit (same-error c.from_residual.result _ _ c.from_residual.ensures.1 is) (tasks_of (take c.loop-job.job-index c.args.jobs.now)) c.loop-job.invariant.visited)

pub loop-job-preserved : goal.loop-job-preserved
loop-job-preserved c =
    record {
      few = c.visit_job.ensures.few;
      visited =
          visited_jobs c.args.jobs.now c.as_slice-job-items.result.now c.loop-job.job-index c.job-item.result _ _ c.as_slice-job-items.ensures c.loop-job-test.true c.job-item.is
          (c.in_ok-visit_job.ensures.visited (tasks_of (take c.loop-job.job-index c.args.jobs.now)) c.loop-job.invariant.visited);
    }

pub invariant_of-result : goal.invariant_of-result
invariant_of-result c = is-closure _ c.loop-job.numbering c.loop-job.roots c.loop-job.invariant.visited c.loop-job.invariant.few
