-- The free net of a plan: copies of a net of inputs alone, one input for each name and one copy for each variable of
-- the plan, with the oracles of the plan's closure. A path to bad of its safe net is a tuple of lassos that fulfils
-- the plan.
use Rattle.std.specs.Prelude.{ℕ, zero, suc, ◌≡◌, ◌*◌, ◌<◌, Bool, cond, nat_eq, List, [], ◌∷◌, ◌++◌, length, Option, Some, None}
use Rattle.std.specs.List.{list_any}
use Rattle.aig_net.specs.declared.signals.Signal.{Signal}
use Rattle.aig_net.specs.Nets.{Net}
use Rattle.sym_tableau.specs.Oracles.{no_names}
use Rattle.ltl_closure.specs.Jobs.{closure_of, task_nodes}
use Rattle.ltl_closure.specs.Nodes.{Node, literal, node_at}
use Rattle.ea_reduce.specs.Plans.{PlainPlan, plan_tasks}
use Rattle.live_safe.specs.declared.safe_net.SafeNet.{SafeNet}
use Rattle.live_safe.specs.Safe.{to_safe}
use Rattle.wit_lasso.specs.FormulaNets.{Tableau}
use Rattle.formula_nets.specs.SafeNets.{net_over, tableau_over}

-- k inputs and nothing else
abbrev pub free_net : ℕ → Net
free_net k = record {
  inputs = k;
  latches = [];
  resets = [];
  ands = [];
  outputs = [];
  constraints = [];
  fairs = [];
  input_names = no_names k;
  latch_names = [];
  output_names = [];
}

-- The names stand for the inputs from number j on, in their order.
abbrev pub free_signals : ℕ → List ℕ → List Signal
free_signals j [] = []
free_signals j (name ∷ names) =
    record { name = name; var = 0; literal = 2 * suc j } ∷ free_signals (suc j) names

-- ---- the names of a closure's literals, each where it stands first

abbrev pub is_among : List ℕ → ℕ → Bool
is_among names name = list_any (λ x. nat_eq x name) names

abbrev pub with_name : ℕ → List ℕ → List ℕ
with_name name names = cond (is_among names name) names (names ++ name ∷ [])

abbrev pub name_in : Node → Option ℕ
name_in (literal b name v) = Some name
name_in _ = None

abbrev pub with_some : Option ℕ → List ℕ → List ℕ
with_some (Some name) names = with_name name names
with_some None names = names

-- those of the members below k
abbrev pub names_below : List Node → ℕ → List ℕ
names_below nodes zero = []
names_below nodes (suc k) = with_some (name_in (node_at nodes k)) (names_below nodes k)

abbrev pub names_of : List Node → List ℕ
names_of nodes = names_below nodes (length nodes)

-- Some member is a literal with the name.
pub record HasName (nodes : List Node) (name : ℕ) : Type 0 where
  pub place : ℕ
  pub variable : ℕ
  pub sign : Bool
  pub below : place < length nodes
  pub is : node_at nodes place ≡ literal sign name variable

-- ---- the nets of a plan

abbrev pub plan_names : PlainPlan → List ℕ
plan_names plan = names_of (task_nodes (plan_tasks plan))

-- an input for each name, and what the names stand for in it
abbrev pub plan_inputs : PlainPlan → Net
plan_inputs plan = free_net (length (plan_names plan))

abbrev pub plan_signals : PlainPlan → List Signal
plan_signals plan = free_signals 0 (plan_names plan)

-- the closure of the plan over a copy of these for each variable
abbrev pub plan_tableau : PlainPlan → Tableau
plan_tableau plan = tableau_over (plan_signals plan) plan.vars (closure_of (plan_tasks plan))

abbrev pub plan_net : PlainPlan → Net
plan_net plan = net_over (plan_inputs plan) (plan_signals plan) plan.vars (closure_of (plan_tasks plan))

-- the safe net in which a path is looked for
abbrev pub plan_safe : PlainPlan → SafeNet
plan_safe plan = to_safe (plan_net plan)
