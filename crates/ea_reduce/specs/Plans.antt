-- The plans of formulas: their universal variables stand for each of the existential ones in turn.
use Rattle.std.specs.Prelude.{ℕ, zero, suc, ◌+◌, ◌*◌, Bool, true, false, List, [], ◌∷◌, ◌++◌, map}
use Rattle.std.specs.List.{flat_map, range_with_len}
use Rattle.hy_formula.specs.Trees.{Tree, tree_of}
use Rattle.hy_formula.specs.declared.prefix.Quant.{Quant}
use Rattle.hy_formula.specs.declared.prefix.Quant.TheVariants.{Exists, Forall}
use Rattle.hy_formula.specs.Quantifiers.{turned}
use Rattle.ltl_closure.specs.declared.job.Job.{Job}
use Rattle.ltl_closure.specs.Jobs.{Task, tasks_by}
use Rattle.ea_reduce.specs.declared.plan.Plan.{Plan as Kept}

-- how many of the quantifiers are existential
abbrev pub existentials : List Quant → ℕ
existentials [] = 0
existentials (Exists ∷ prefix) = suc (existentials prefix)
existentials (Forall ∷ prefix) = existentials prefix

-- The maps of a prefix: an existential variable stands for one of its own, from `next` on, and a universal one for
-- each of the first `vars`. The first universal variable changes slowest.
abbrev pub maps_of : ℕ → ℕ → List Quant → List (List ℕ)
maps_of vars next [] = [] ∷ []
maps_of vars next (Exists ∷ prefix) = map (λ m. next ∷ m) (maps_of vars (suc next) prefix)
maps_of vars next (Forall ∷ prefix) = flat_map (λ k. map (λ m. k ∷ m) (maps_of vars next prefix)) (range_with_len 0 vars)

-- how many maps these are
abbrev pub instances : ℕ → List Quant → ℕ
instances vars [] = 1
instances vars (Exists ∷ prefix) = instances vars prefix
instances vars (Forall ∷ prefix) = vars * instances vars prefix

-- a body, whether it is to hold or not to hold, and the maps under which it is
pub record PlainJob : Type 0 where
  pub body : Tree
  pub positive : Bool
  pub maps : List (List ℕ)

-- jobs on as many lassos
pub record PlainPlan : Type 0 where
  pub vars : ℕ
  pub jobs : List PlainJob

-- as many lassos as there are existential variables, or one where there are none
abbrev pub lassos_for : ℕ → ℕ
lassos_for zero = 1
lassos_for (suc n) = suc n

-- the plan of a formula
abbrev pub reduction : List Quant → Tree → PlainPlan
reduction prefix body =
    let vars = lassos_for (existentials prefix) in
    record { vars = vars; jobs = record { body = body; positive = true; maps = maps_of vars 0 prefix } ∷ [] }

-- the plan of a formula that is to hold and of another that is not to, whose quantifiers are turned
abbrev pub implication : List Quant → Tree → List Quant → Tree → PlainPlan
implication first body second other =
    let next = existentials first in
    let vars = lassos_for (next + existentials (map turned second)) in
    record {
      vars = vars;
      jobs =
          record { body = body; positive = true; maps = maps_of vars 0 first }
          ∷ (record { body = other; positive = false; maps = maps_of vars next (map turned second) } ∷ []);
    }

abbrev pub tasks_of_jobs : List PlainJob → List Task
tasks_of_jobs [] = []
tasks_of_jobs (job ∷ jobs) = tasks_by job.body job.positive job.maps ++ tasks_of_jobs jobs

-- each job under each of its maps
abbrev pub plan_tasks : PlainPlan → List Task
plan_tasks plan = tasks_of_jobs plan.jobs

-- a plan as it is kept, seen as a plain one
abbrev pub plain_job : Job → PlainJob
plain_job job = record { body = tree_of job.body; positive = job.positive; maps = job.maps }

abbrev pub plain_plan : Kept → PlainPlan
plain_plan plan = record { vars = plan.vars; jobs = map plain_job plan.jobs }
