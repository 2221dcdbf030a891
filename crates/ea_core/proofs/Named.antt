-- The names of a closure's literals are those of atoms of the bodies.
use Rattle.std.proofs.Common.{◌≡◌, ℕ, ◌<◌, Bool, true, false, cond, ◌⊎◌, List, [], ◌∷◌, ◌++◌, length, refl, sym, subst, inl, inr, arith, length-append}
use Rattle.std.specs.List.{Contains, list_any}
use Rattle.std.proofs.lemmas.Bool.{cases_lt}
use Rattle.std.proofs.lemmas.List.{get_or-map, length-map, get_or_append_left}
use Rattle.hy_base.proofs.Members.{contains-here, contains-later}
use Rattle.hy_formula.specs.Trees as tree
use Rattle.hy_formula.specs.Trees.{Tree}
use Rattle.hy_formula.specs.Normals.{Normal, always, never, literal, and, or, next, weak_next, until, release, normal_form}
use Rattle.hy_formula.specs.Renamed.{renamed}
use Rattle.ltl_closure.specs.Nodes as node
use Rattle.ltl_closure.specs.Nodes.{Node, node_at}
use Rattle.ltl_closure.specs.Closures.{same_form, with_new, with_form, with_forms, closure, form_in, node_of}
use Rattle.ltl_closure.specs.Jobs.{Task, variable_in, tasks_by, form_of_task, forms_of, task_nodes}
use Rattle.ltl_closure.proofs.Closing.{last-form}
use Rattle.ea_reduce.specs.Plans.{PlainPlan, PlainJob, tasks_of_jobs, plan_tasks}
use Rattle.rank_proofs.specs.Proofs.{plan_nodes}
use Rattle.ea_core.specs.Decided.{Mentions}
use Rattle.ea_core.specs.Solved.{PlanMentions}

module _ (P : ℕ → Type 0) where
  abbrev FormNamed : Normal → Type 0
  FormNamed always = Unit {0}
  FormNamed never = Unit {0}
  FormNamed (literal b name v) = P name
  FormNamed (and f g) = FormNamed f × FormNamed g
  FormNamed (or f g) = FormNamed f × FormNamed g
  FormNamed (next f) = FormNamed f
  FormNamed (weak_next f) = FormNamed f
  FormNamed (until f g) = FormNamed f × FormNamed g
  FormNamed (release f g) = FormNamed f × FormNamed g

  abbrev NodeNamed : Node → Type 0
  NodeNamed (node.literal b name v) = P name
  NodeNamed _ = Unit {0}

-- Each name of the tree has the property.
abbrev AllMentioned : (ℕ → Type 0) → Tree → Type 0
AllMentioned P f = (name : ℕ) → Mentions f name → P name

module _ (P : ℕ → Type 0) (map : ℕ → ℕ) where
  left : (F G : Tree) → ((name : ℕ) → Mentions F name ⊎ Mentions G name → P name) → AllMentioned P F
  left F G h name m = h name (inl m)

  right : (F G : Tree) → ((name : ℕ) → Mentions F name ⊎ Mentions G name → P name) → AllMentioned P G
  right F G h name m = h name (inr m)

  normal-named : (b : Bool) (f : Tree) → AllMentioned P f → FormNamed P (normal_form b (renamed map f))
  normal-named true tree.always h = tt
  normal-named false tree.always h = tt
  normal-named true tree.never h = tt
  normal-named false tree.never h = tt
  normal-named true (tree.atom a v) h = h a refl
  normal-named false (tree.atom a v) h = h a refl
  normal-named true (tree.not f) h = normal-named false f h
  normal-named false (tree.not f) h = normal-named true f h
  normal-named true (tree.and f g) h = (normal-named true f (left f g h), normal-named true g (right f g h))
  normal-named false (tree.and f g) h = (normal-named false f (left f g h), normal-named false g (right f g h))
  normal-named true (tree.or f g) h = (normal-named true f (left f g h), normal-named true g (right f g h))
  normal-named false (tree.or f g) h = (normal-named false f (left f g h), normal-named false g (right f g h))
  normal-named true (tree.implies f g) h = (normal-named false f (left f g h), normal-named true g (right f g h))
  normal-named false (tree.implies f g) h = (normal-named true f (left f g h), normal-named false g (right f g h))
  normal-named true (tree.iff f g) h =
      ((normal-named true f (left f g h), normal-named true g (right f g h)), (normal-named false f (left f g h), normal-named false g (right f g h)))
  normal-named false (tree.iff f g) h =
      ((normal-named true f (left f g h), normal-named false g (right f g h)), (normal-named false f (left f g h), normal-named true g (right f g h)))
  normal-named true (tree.next f) h = normal-named true f h
  normal-named false (tree.next f) h = normal-named false f h
  normal-named true (tree.finally f) h = (tt, normal-named true f h)
  normal-named false (tree.finally f) h = (tt, normal-named false f h)
  normal-named true (tree.globally f) h = (tt, normal-named true f h)
  normal-named false (tree.globally f) h = (tt, normal-named false f h)
  normal-named true (tree.until f g) h = (normal-named true f (left f g h), normal-named true g (right f g h))
  normal-named false (tree.until f g) h = (normal-named false f (left f g h), normal-named false g (right f g h))
  normal-named true (tree.release f g) h = (normal-named true f (left f g h), normal-named true g (right f g h))
  normal-named false (tree.release f g) h = (normal-named false f (left f g h), normal-named false g (right f g h))
  normal-named true (tree.weak f g) h = (normal-named true g (right f g h), (normal-named true f (left f g h), normal-named true g (right f g h)))
  normal-named false (tree.weak f g) h = (normal-named false g (right f g h), (normal-named false f (left f g h), normal-named false g (right f g h)))

module _ (P : ℕ → Type 0) where
  abbrev AllNamed : List Normal → Type 0
  AllNamed members = (k : ℕ) → k < length members → FormNamed P (form_in members k)

  new-named : (f : Normal) (members : List Normal) → FormNamed P f → AllNamed members → AllNamed (with_new f members)
  new-named f members here all = step (list_any (same_form f) members)
    where
      last : AllNamed (members ++ f ∷ [])
      last k lt =
          let l = length-append members (f ∷ []) in
          elim (cases_lt k (length members)) [
            | inl old ↦ subst (FormNamed P) (sym (get_or_append_left members (f ∷ []) always k old)) (all k old)
            | inr past ↦
                let e : length members ≡ k = omega (arith, l) in
                let Q : ℕ → Type 0 = λ q. FormNamed P (form_in (members ++ f ∷ []) q) in
                subst Q e (subst (FormNamed P) (sym (last-form members f)) here)
          ]

      step : (b : Bool) → AllNamed (cond b members (members ++ f ∷ []))
      step true = all
      step false = last

  form-named : (f : Normal) (members : List Normal) → FormNamed P f → AllNamed members → AllNamed (with_form f members)
  form-named always members h all = new-named always members h all
  form-named never members h all = new-named never members h all
  form-named (literal b a v) members h all = new-named (literal b a v) members h all
  form-named (and f g) members (x, y) all = new-named (and f g) (with_form g (with_form f members)) (x, y) (form-named g (with_form f members) y (form-named f members x all))
  form-named (or f g) members (x, y) all = new-named (or f g) (with_form g (with_form f members)) (x, y) (form-named g (with_form f members) y (form-named f members x all))
  form-named (next f) members x all = new-named (next f) (with_form f members) x (form-named f members x all)
  form-named (weak_next f) members x all = new-named (weak_next f) (with_form f members) x (form-named f members x all)
  form-named (until f g) members (x, y) all = new-named (until f g) (with_form g (with_form f members)) (x, y) (form-named g (with_form f members) y (form-named f members x all))
  form-named (release f g) members (x, y) all = new-named (release f g) (with_form g (with_form f members)) (x, y) (form-named g (with_form f members) y (form-named f members x all))

  abbrev TasksNamed : List Task → Type 0
  TasksNamed [] = Unit {0}
  TasksNamed (task ∷ tasks) = AllMentioned P task.body × TasksNamed tasks

  members-named : (tasks : List Task) (members : List Normal) → TasksNamed tasks → AllNamed members → AllNamed (with_forms (forms_of tasks) members)
  members-named [] members named all = all
  members-named (task ∷ tasks) members (here, named) all =
      members-named tasks (with_form (form_of_task task) members) named
      (form-named (form_of_task task) members (normal-named P (variable_in task.map) task.positive task.body here) all)

  node-named : (members : List Normal) (f : Normal) → FormNamed P f → NodeNamed P (node_of members f)
  node-named members always h = tt
  node-named members never h = tt
  node-named members (literal b a v) h = h
  node-named members (and f g) h = tt
  node-named members (or f g) h = tt
  node-named members (next f) h = tt
  node-named members (weak_next f) h = tt
  node-named members (until f g) h = tt
  node-named members (release f g) h = tt

  nodes-named : (tasks : List Task) → TasksNamed tasks → (k : ℕ) → k < length (task_nodes tasks) → NodeNamed P (node_at (task_nodes tasks) k)
  nodes-named tasks named k lt =
      let members : List Normal = closure (forms_of tasks) in
      let l = length-map members (node_of members) in
      let inside : k < length members = omega (arith, l) in
      let all : AllNamed members = members-named tasks [] named (λ q lt'. absurd (omega arith)) in
      subst (NodeNamed P) (sym (get_or-map (node_of members) members k always node.always inside)) (node-named members (form_in members k) (all k inside))

  named-append : (tasks more : List Task) → TasksNamed tasks → TasksNamed more → TasksNamed (tasks ++ more)
  named-append [] more _ h = h
  named-append (task ∷ tasks) more (p, g) h = (p, named-append tasks more g h)

  named-by : (body : Tree) (positive : Bool) (maps : List (List ℕ)) → AllMentioned P body → TasksNamed (tasks_by body positive maps)
  named-by body positive [] h = tt
  named-by body positive (m ∷ ms) h = (h, named-by body positive ms h)

  jobs-named : (jobs : List PlainJob) → ((job : PlainJob) → Contains jobs job → AllMentioned P job.body) → TasksNamed (tasks_of_jobs jobs)
  jobs-named [] h = tt
  jobs-named (job ∷ jobs) h =
      named-append (tasks_by job.body job.positive job.maps) (tasks_of_jobs jobs) (named-by job.body job.positive job.maps (h job (contains-here job jobs)))
      (jobs-named jobs (λ j c. h j (contains-later job j jobs c)))

-- A literal of a plan's closure has a name of the plan.
pub plan-named : (plan : PlainPlan) (k name v : ℕ) (b : Bool) → k < length (plan_nodes plan) → node_at (plan_nodes plan) k ≡ node.literal b name v → PlanMentions plan name
plan-named plan k name v b lt e =
    subst (NodeNamed (PlanMentions plan)) e
    (nodes-named (PlanMentions plan) (plan_tasks plan) (jobs-named (PlanMentions plan) plan.jobs (λ job c name m. (job, c, m))) k lt)
