-- How many members the closure of a plan may have.
use Rattle.std.specs.Prelude.{ℕ, ◌<◌, ◌≤◌, length}
use Rattle.hy_base.specs.declared.limit.Limit.{Limit as Past}
use Rattle.hy_base.specs.declared.limit.Kind.TheVariants.{Closure}
use Rattle.ltl_closure.specs.declared.closure_error.ClosureError.{ClosureError}
use Rattle.ltl_closure.specs.declared.closure_error.ClosureError.TheVariants.{Limit, Memory}
use Rattle.ea_reduce.specs.Plans.{PlainPlan}
use Rattle.rank_proofs.specs.Proofs.{plan_nodes}

abbrev pub most_members : ℕ
most_members = 1024

abbrev pub closure_limit : Past
closure_limit = record { kind = Closure; limit = most_members }

-- The closure of the plan has at most 1,024 members, or more.
abbrev pub HasFewMembers : PlainPlan → Type 0
HasFewMembers plan = length (plan_nodes plan) ≤ most_members

abbrev pub HasManyMembers : PlainPlan → Type 0
HasManyMembers plan = most_members < length (plan_nodes plan)

-- Why a plan has no closure.
abbrev pub RefusesClosure : PlainPlan → ClosureError → Type 0
RefusesClosure plan Limit = HasManyMembers plan
RefusesClosure plan Memory = Unit {0}
