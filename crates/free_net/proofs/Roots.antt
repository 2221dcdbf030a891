-- The roots of a plan's closure, and its tasks.
use Rattle.std.proofs.Common.{◌≡◌, ℕ, zero, suc, ◌<◌, List, [], ◌∷◌, length, map, get_or, slice_get, Some, refl, ap, ◌∙◌, arith}
use Rattle.std.proofs.lemmas.List.{length-map}
use Rattle.hy_formula.specs.Normals.{Normal}
use Rattle.hy_formula.specs.Temporal.{Span, Words}
use Rattle.ltl_closure.specs.Closures.{closure, node_of, nodes_of, number_in}
use Rattle.ltl_closure.specs.Jobs.{AllHold, Holds, Task, forms_of, task_nodes, task_roots}
use Rattle.ltl_closure.proofs.Closing.{number-found}
use Rattle.ltl_closure.proofs.Tasks.{AllThere, forms-there, none-closed}

numbers-inside : (members fs : List Normal) → AllThere members fs → (r : ℕ) →
    r < length (map (number_in members) fs) →
    get_or (map (number_in members) fs) r 0 < length (nodes_of members)
numbers-inside members [] there r lt = absurd (omega arith)
numbers-inside members (f ∷ fs) ((p, _, below, e), there) zero lt =
    let (le, at) = number-found members f p below e in
    let l = length-map members (node_of members) in
    omega (arith, le, l, below)
numbers-inside members (f ∷ fs) (here, there) (suc r) lt =
    numbers-inside members fs there r (omega (arith, lt))

-- Each root is a member.
pub roots-inside : (tasks : List Task) (r : ℕ) → r < length (task_roots tasks) →
    get_or (task_roots tasks) r 0 < length (task_nodes tasks)
roots-inside tasks =
    numbers-inside (closure (forms_of tasks)) (forms_of tasks)
    (forms-there (forms_of tasks) [] none-closed)

forms-many : (tasks : List Task) → length (forms_of tasks) ≡ length tasks
forms-many [] = refl
forms-many (task ∷ tasks) = ap suc (forms-many tasks)

pub roots-many : (tasks : List Task) → length (task_roots tasks) ≡ length tasks
roots-many tasks =
    length-map (forms_of tasks) (number_in (closure (forms_of tasks))) ∙ forms-many tasks

module _ (span : Span) (words : Words) where
  -- the task at a place, which holds where all do
  pub task-holds : (tasks : List Task) → AllHold span words tasks → (r : ℕ) → r < length tasks →
      (task : Task) × (slice_get tasks r ≡ Some task) × Holds span words task
  task-holds [] all r lt = absurd (omega arith)
  task-holds (task ∷ tasks) (here, all) zero lt = (task, refl, here)
  task-holds (task ∷ tasks) (here, all) (suc r) lt = task-holds tasks all r (omega (arith, lt))

  pub all-hold : (tasks : List Task) → ((r : ℕ) (task : Task) → r < length tasks →
      slice_get tasks r ≡ Some task → Holds span words task) → AllHold span words tasks
  all-hold [] each = tt
  all-hold (task ∷ tasks) each = (
    each 0 task (omega arith) refl,
    all-hold tasks (λ r other lt at. each (suc r) other (omega (arith, lt)) at),
  )
