-- Bodies that are to hold together, under maps of their variables.
use Rattle.std.specs.Prelude.{◌≡◌, ℕ, ◌<◌, Bool, List, [], ◌∷◌, ◌++◌, length, map, slice_index_or, All, IsTrue}
use Rattle.hy_formula.specs.Trees.{Tree, tree_of, vars_below}
use Rattle.hy_formula.specs.Temporal.{Span, Words, SatisfiesAt}
use Rattle.hy_formula.specs.Normals.{Normal, normal_form, Signed}
use Rattle.hy_formula.specs.Renamed.{renamed, with_variables}
use Rattle.ltl_closure.specs.declared.job.Job.{Job}
use Rattle.ltl_closure.specs.Nodes.{Node}
use Rattle.ltl_closure.specs.Closures.{closure, nodes_of, number_in}

-- a job without where its parts lie in memory
pub record PlainJob : Type 0 where
  pub body : Tree
  pub positive : Bool
  pub maps : List (List ℕ)

abbrev pub plain_job : Job → PlainJob
plain_job job = record { body = tree_of job.body; positive = job.positive; maps = job.maps }

abbrev pub plain_jobs : List Job → List PlainJob
plain_jobs jobs = map plain_job jobs

-- a body, whether it is to hold, and the variable that each of its variables stands for
pub record Task : Type 0 where
  pub body : Tree
  pub positive : Bool
  pub map : List ℕ

abbrev pub tasks_by : Tree → Bool → List (List ℕ) → List Task
tasks_by body positive [] = []
tasks_by body positive (m ∷ ms) =
    record { body = body; positive = positive; map = m } ∷ tasks_by body positive ms

-- each job under each of its maps
abbrev pub tasks_of : List Job → List Task
tasks_of [] = []
tasks_of (job ∷ jobs) = tasks_by (tree_of job.body) job.positive job.maps ++ tasks_of jobs

abbrev pub variable_in : List ℕ → ℕ → ℕ
variable_in m v = slice_index_or m v 0

abbrev pub Holds : Span → Words → Task → Type 0
Holds span words task = Signed task.positive (SatisfiesAt span (with_variables (variable_in task.map) words) task.body 0)

abbrev pub AllHold : Span → Words → List Task → Type 0
AllHold span words [] = Unit {0}
AllHold span words (task ∷ tasks) = Holds span words task × AllHold span words tasks

abbrev pub form_of_task : Task → Normal
form_of_task task = normal_form task.positive (renamed (variable_in task.map) task.body)

abbrev pub forms_of : List Task → List Normal
forms_of [] = []
forms_of (task ∷ tasks) = form_of_task task ∷ forms_of tasks

-- the nodes of the tasks
abbrev pub task_nodes : List Task → List Node
task_nodes tasks = nodes_of (closure (forms_of tasks))

-- the numbers of the whole forms, in the order of the tasks
abbrev pub task_roots : List Task → List ℕ
task_roots tasks = map (number_in (closure (forms_of tasks))) (forms_of tasks)

-- nodes, and the numbers of some of them
pub record Rooted : Type 0 where
  pub nodes : List Node
  pub roots : List ℕ

-- the closure of the tasks
abbrev pub closure_of : List Task → Rooted
closure_of tasks = record { nodes = task_nodes tasks; roots = task_roots tasks }

-- Each variable of a job's body is below the length of each of its maps.
abbrev pub IsMapped : Job → Type 0
IsMapped job = All (λ m. IsTrue (vars_below (length m) (tree_of job.body))) job.maps

-- Each variable of each body stands for one below n.
abbrev pub AreMappedBelow : ℕ → List Task → Type 0
AreMappedBelow n [] = Unit {0}
AreMappedBelow n (task ∷ tasks) = ((v : ℕ) → variable_in task.map v < n) × AreMappedBelow n tasks

-- The map has each variable below n for itself.
pub record IsIdentity (m : List ℕ) (n : ℕ) : Type 0 where
  pub long : length m ≡ n
  pub same : (v : ℕ) → v < n → variable_in m v ≡ v
