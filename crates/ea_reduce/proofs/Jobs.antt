-- The tasks of jobs.
use Rattle.std.proofs.Common.{◌≡◌, ℕ, ◌+◌, ◌<◌, ◌≤◌, Bool, List, [], ◌∷◌, ◌++◌, map, refl, ap, sym, subst}
use Rattle.hy_formula.specs.Trees.{Tree, tree_of}
use Rattle.hy_formula.specs.Temporal.{Span, Words}
use Rattle.hy_formula.specs.Quantifiers.{Each}
use Rattle.hy_formula.specs.declared.prefix.Quant.{Quant}
use Rattle.ltl_closure.specs.declared.job.Job.{Job}
use Rattle.ltl_closure.specs.Jobs.{Task, tasks_by, tasks_of, Holds, AllHold, AreMappedBelow}
use Rattle.ea_reduce.specs.Plans.{existentials, maps_of, plain_job, tasks_of_jobs}
use Rattle.ea_reduce.proofs.Maps.{IsBelow, are-below}

pub plain-tasks : (jobs : List Job) → tasks_of jobs ≡ tasks_of_jobs (map plain_job jobs)
plain-tasks [] = refl
plain-tasks (job ∷ jobs) = ap (λ ts. tasks_by (tree_of job.body) job.positive job.maps ++ ts) (plain-tasks jobs)

module _ (span : Span) (words : Words) where
  -- the body under one map
  abbrev pub HoldsUnder : Tree → Bool → List ℕ → Type 0
  HoldsUnder body positive m = Holds span words (record { body = body; positive = positive; map = m })

  pub all-under : (body : Tree) (positive : Bool) (maps : List (List ℕ)) → Each (HoldsUnder body positive) maps → AllHold span words (tasks_by body positive maps)
  all-under body positive [] h = tt
  all-under body positive (m ∷ ms) (p, h) = (p, all-under body positive ms h)

  pub each-under : (body : Tree) (positive : Bool) (maps : List (List ℕ)) → AllHold span words (tasks_by body positive maps) → Each (HoldsUnder body positive) maps
  each-under body positive [] h = tt
  each-under body positive (m ∷ ms) (p, h) = (p, each-under body positive ms h)

  pub hold-append : (tasks more : List Task) → AllHold span words tasks → AllHold span words more → AllHold span words (tasks ++ more)
  hold-append [] more _ h = h
  hold-append (task ∷ tasks) more (p, g) h = (p, hold-append tasks more g h)

  pub hold-left : (tasks more : List Task) → AllHold span words (tasks ++ more) → AllHold span words tasks
  hold-left [] more h = tt
  hold-left (task ∷ tasks) more (p, h) = (p, hold-left tasks more h)

  pub hold-right : (tasks more : List Task) → AllHold span words (tasks ++ more) → AllHold span words more
  hold-right [] more h = h
  hold-right (task ∷ tasks) more (p, h) = hold-right tasks more h

-- Each map of each task has variables below n.
pub below-append : (n : ℕ) (tasks more : List Task) → AreMappedBelow n tasks → AreMappedBelow n more → AreMappedBelow n (tasks ++ more)
below-append n [] more _ h = h
below-append n (task ∷ tasks) more (p, g) h = (p, below-append n tasks more g h)

pub below-by : (n : ℕ) (body : Tree) (positive : Bool) (maps : List (List ℕ)) → Each (IsBelow n) maps → AreMappedBelow n (tasks_by body positive maps)
below-by n body positive [] h = tt
below-by n body positive (m ∷ ms) (p, h) = (p, below-by n body positive ms h)

pub maps-below : (vars next : ℕ) (prefix : List Quant) (maps : List (List ℕ)) (tree : Tree) (positive : Bool) → 0 < vars → next + existentials prefix ≤ vars
    → maps ≡ maps_of vars next prefix → AreMappedBelow vars (tasks_by tree positive maps)
maps-below vars next prefix maps tree positive some le same =
    let P : List (List ℕ) → Type 0 = λ ms. AreMappedBelow vars (tasks_by tree positive ms) in
    subst P (sym same) (below-by vars tree positive (maps_of vars next prefix) (are-below vars next prefix some le))

-- Each variable of a job stands for one of the first lassos.
abbrev pub IsJobBelow : ℕ → Job → Type 0
IsJobBelow n job = AreMappedBelow n (tasks_by (tree_of job.body) job.positive job.maps)

pub below-two : (n : ℕ) (first second : Job) (jobs : List Job) → jobs ≡ first ∷ (second ∷ []) → IsJobBelow n first → IsJobBelow n second → AreMappedBelow n (tasks_of jobs)
below-two n first second jobs e g h =
    let P : List Job → Type 0 = λ js. AreMappedBelow n (tasks_of js) in
    subst P (sym e) (below-append n (tasks_by (tree_of first.body) first.positive first.maps) _ g
    (below-append n (tasks_by (tree_of second.body) second.positive second.maps) [] h tt))
