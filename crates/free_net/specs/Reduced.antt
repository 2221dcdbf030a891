-- What plans of formulas are.
use Rattle.std.specs.Prelude.{◌≡◌, ◌⊎◌, ◌<◌, ◌≤◌, List, length}
use Rattle.hy_formula.specs.Trees.{Tree}
use Rattle.hy_formula.specs.declared.prefix.Quant.{Quant}
use Rattle.ltl_closure.specs.Jobs.{AreMappedBelow}
use Rattle.ea_reduce.specs.Plans.{PlainPlan, implication, plan_tasks, reduction}
use Rattle.cnf_frames.specs.Facts.{IsSafe}
use Rattle.free_net.specs.declared.nets.PlanNets.{PlanNets}
use Rattle.free_net.specs.FreeNets.{plan_inputs, plan_safe, plan_signals}

-- At most two jobs on some lassos, to which their maps lead.
pub record IsReduced (plan : PlainPlan) : Type 0 where
  pub some : 0 < plan.vars
  pub below : AreMappedBelow plan.vars (plan_tasks plan)
  pub jobs : length plan.jobs ≤ 2

-- The plan is that of a formula, or of one that is to hold and another that is not.
abbrev pub IsOfFormulas : PlainPlan → Type 0
IsOfFormulas plan =
    ((prefix : List Quant) × (body : Tree) × (plan ≡ reduction prefix body))
    ⊎ ((first : List Quant) × (body : Tree) × (second : List Quant) × (other : Tree)
    × (plan ≡ implication first body second other))

-- The net, the signals and the safe net are those of the plan.
pub record ArePlanNets (plan : PlainPlan) (nets : PlanNets) : Type 0 where
  pub inputs : nets.inputs ≡ plan_inputs plan
  pub signals : nets.signals ≡ plan_signals plan
  pub safe : nets.safe ≡ plan_safe plan
  pub good : IsSafe nets.safe
