-- A root says what its task says.
use Rattle.std.proofs.Common.{◌≡◌, ℕ, zero, suc, ◌↔◌, Bool, true, false, List, [], ◌∷◌, map, get_or, slice_get, Some, sym, subst}
use Rattle.hy_formula.specs.Temporal.{Span, Words, IsDecided}
use Rattle.hy_formula.specs.Normals.{Normal, HoldsAt, Signed}
use Rattle.hy_formula.specs.Renamed.{renamed}
use Rattle.hy_formula.proofs.Normalising.{normal-right}
use Rattle.hy_formula.proofs.Renaming.{renamed-right}
use Rattle.ltl_closure.specs.Closures.{closure, number_in, form_in}
use Rattle.ltl_closure.specs.Jobs.{Task, variable_in, Holds, form_of_task, forms_of, task_roots}
use Rattle.ltl_closure.proofs.Closing.{number-found}
use Rattle.ltl_closure.proofs.Tasks.{AllThere, forms-there, none-closed}

signed-like : {P Q : Type 0} (b : Bool) → P ↔ Q → Signed b P ↔ Signed b Q
signed-like true e = e
signed-like false e = (λ n q. n (e.1 q), λ n p. n (e.0 p))

-- a task says what its form says
pub task-form : (span : Span) (words : Words) → IsDecided span words → (task : Task) → HoldsAt span words (form_of_task task) 0 ↔ Holds span words task
task-form span words d task =
    let n = normal-right span words d task.positive (renamed (variable_in task.map) task.body) 0 in
    let r = signed-like task.positive (renamed-right span words (variable_in task.map) task.body 0) in
    (λ h. r.0 (n.0 h), λ h. n.1 (r.1 h))

root-form : (members : List Normal) (tasks : List Task) → AllThere members (forms_of tasks) → (i : ℕ) (task : Task) → slice_get tasks i ≡ Some task → form_in members (get_or (map (number_in members) (forms_of tasks)) i 0) ≡ form_of_task task
root-form members [] there i task e = absurd (cc)
root-form members (t ∷ ts) (here, there) zero task e =
    let (p, _, lt, at) = here in
    let same : t ≡ task = cc in
    let P : Task → Type 0 = λ x. form_in members (number_in members (form_of_task t)) ≡ form_of_task x in
    subst P same (number-found members (form_of_task t) p lt at).1
root-form members (t ∷ ts) (here, there) (suc i) task e = root-form members ts there i task e

pub root-right : (span : Span) (words : Words) → IsDecided span words → (tasks : List Task) (i : ℕ) (task : Task) → slice_get tasks i ≡ Some task → HoldsAt span words (form_in (closure (forms_of tasks)) (get_or (task_roots tasks) i 0)) 0 ↔ Holds span words task
root-right span words d tasks i task e =
    let is = root-form (closure (forms_of tasks)) tasks (forms-there (forms_of tasks) [] none-closed) i task e in
    let P : Normal → Type 0 = λ f. HoldsAt span words f 0 ↔ Holds span words task in
    subst P (sym is) (task-form span words d task)
