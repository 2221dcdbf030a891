-- The closure of a plan, by that of its jobs.
use Rattle.std.proofs.Common.{◌<◌, List, length, Result, Ok, Err, IfErr, IsErrOf, refl, subst}
use Rattle.ltl_closure.specs.Jobs.{Task, tasks_of, task_nodes}
use Rattle.ltl_closure.specs.declared.closure_error.ClosureError.{ClosureError}
use Rattle.ltl_closure.specs.declared.closure_error.ClosureError.TheVariants.{Limit, Memory}
use Rattle.ea_reduce.specs.declared.plan.Plan.{Plan}
use Rattle.ea_reduce.specs.Plans.{plain_plan}
use Rattle.ea_reduce.proofs.Jobs.{plain-tasks}
use Rattle.rank_proofs.specs.Counts.{most_members, RefusesClosure}

-- a closure that is not made
pub closure-refused : {T : Type 0} (plan : Plan) (r : Result T ClosureError)
    → (IsErrOf r Limit → most_members < length (task_nodes (tasks_of plan.jobs)))
    → IfErr r (RefusesClosure (plain_plan plan))
closure-refused plan (Ok c) many = tt
closure-refused plan (Err Limit) many =
    let P : List Task → Type 0 = λ ts. most_members < length (task_nodes ts) in
    subst P (plain-tasks plan.jobs) (many refl)
closure-refused plan (Err Memory) many = tt
