-- What plans of formulas are, and that there is room for their nets.
use Rattle.std.proofs.Common.{◌≡◌, ℕ, zero, suc, ◌+◌, ◌*◌, ◌^◌, ◌<◌, ◌≤◌, Bool, true, false, List, [], ◌∷◌, length, map, All, refl, ap, arith, length-append, inl, inr, sym, subst}
use Rattle.std.proofs.lemmas.Nat.{mul-le}
use Rattle.hy_formula.specs.Quantifiers.{turned}
use Rattle.hy_formula.specs.Trees.{Tree}
use Rattle.hy_formula.specs.declared.prefix.Quant.{Quant}
use Rattle.aig_net.specs.declared.signals.Signal.{Signal}
use Rattle.aig_net.specs.Nets.{Net, variables}
use Rattle.ltl_closure.specs.Jobs.{Rooted, closure_of, task_nodes, tasks_by}
use Rattle.ea_reduce.specs.Plans.{PlainJob, PlainPlan, existentials, implication, lassos_for, maps_of, plan_tasks, reduction, tasks_of_jobs}
use Rattle.ea_reduce.specs.Refused.{HasFewMaps}
use Rattle.ea_reduce.proofs.Jobs.{below-append, below-by}
use Rattle.ea_reduce.proofs.Maps.{are-below}
use Rattle.formula_nets.specs.SafeNets.{safe_over}
use Rattle.free_net.specs.FreeNets.{plan_inputs, plan_names, plan_safe, plan_signals}
use Rattle.free_net.specs.Reduced.{IsOfFormulas, IsReduced}
use Rattle.free_net.proofs.Naming.{names-few}
use Rattle.free_net.proofs.Roots.{roots-many}

-- ---- plans of formulas

lassos-some : (n : ℕ) → 0 < lassos_for n
lassos-some zero = omega arith
lassos-some (suc n) = omega arith

lassos-most : (n : ℕ) → n ≤ lassos_for n
lassos-most zero = omega arith
lassos-most (suc n) = omega arith

reduction-reduced : (prefix : List Quant) (body : Tree) → IsReduced (reduction prefix body)
reduction-reduced prefix body =
    let vars : ℕ = lassos_for (existentials prefix) in
    let some : 0 < vars = lassos-some (existentials prefix) in
    let most = lassos-most (existentials prefix) in
    record {
      some = some;
      below = below-append vars (tasks_by body true (maps_of vars 0 prefix)) []
          (below-by vars body true (maps_of vars 0 prefix) (are-below vars 0 prefix some (omega (arith, most)))) tt;
      jobs = omega arith;
    }

implication-reduced : (first : List Quant) (body : Tree) (second : List Quant) (other : Tree) →
    IsReduced (implication first body second other)
implication-reduced first body second other =
    let next : ℕ = existentials first in
    let back : List Quant = map turned second in
    let vars : ℕ = lassos_for (next + existentials back) in
    let some : 0 < vars = lassos-some (next + existentials back) in
    let most = lassos-most (next + existentials back) in
    record {
      some = some;
      below = below-append vars (tasks_by body true (maps_of vars 0 first)) _
          (below-by vars body true (maps_of vars 0 first) (are-below vars 0 first some (omega (arith, most))))
          (below-append vars (tasks_by other false (maps_of vars next back)) []
          (below-by vars other false (maps_of vars next back) (are-below vars next back some most)) tt);
      jobs = omega arith;
    }

pub formulas-reduced : (plan : PlainPlan) → IsOfFormulas plan → IsReduced plan
formulas-reduced plan (inl (prefix, body, is)) = subst IsReduced (sym is) (reduction-reduced prefix body)
formulas-reduced plan (inr (first, body, second, other, is)) =
    subst IsReduced (sym is) (implication-reduced first body second other)

-- ---- how many roots they have, and how large their nets are

tasks-by-many : (body : Tree) (positive : Bool) (maps : List (List ℕ)) →
    length (tasks_by body positive maps) ≡ length maps
tasks-by-many body positive [] = refl
tasks-by-many body positive (m ∷ ms) = ap suc (tasks-by-many body positive ms)

tasks-few : (jobs : List PlainJob) → All (λ job. length job.maps ≤ 4096) jobs →
    length (tasks_of_jobs jobs) ≤ 4096 * length jobs
tasks-few [] few = omega arith
tasks-few (job ∷ jobs) few =
    let a = length-append (tasks_by job.body job.positive job.maps) (tasks_of_jobs jobs) in
    let b = tasks-by-many job.body job.positive job.maps in
    let f : length job.maps ≤ 4096 = few 0 job (omega arith) in
    let rest = tasks-few jobs (λ k d lt. few (suc k) d (omega (arith, lt))) in
    omega (arith, a, b, f, rest)

pub plan-fits : ((net : Net) (signals : List Signal) (n : ℕ) (closure : Rooted) → 0 < n →
    variables (safe_over net signals n closure).net
    ≤ 13 * (n * variables net + 6 * length closure.nodes + length closure.roots)
    + 5 * (n * length net.fairs + length closure.nodes) + 18) →
    (plan : PlainPlan) → IsReduced plan → plan.vars < 2 ^ 8 → HasFewMaps plan →
    length (task_nodes (plan_tasks plan)) ≤ 1024 → variables (plan_safe plan).net ≤ 2 ^ 31
plan-fits small plan reduced few maps members =
    let closure : Rooted = closure_of (plan_tasks plan) in
    let s = small (plan_inputs plan) (plan_signals plan) plan.vars closure reduced.some in
    let names : length (plan_names plan) ≤ length closure.nodes =
    names-few closure.nodes (length closure.nodes) in
    let v : plan.vars * variables (plan_inputs plan) ≤ 255 * 1025 =
    mul-le plan.vars (variables (plan_inputs plan)) 255 1025 (omega (arith, few))
    (omega (arith, names, members)) in
    let tasks = tasks-few plan.jobs maps in
    let roots = roots-many (plan_tasks plan) in
    let jobs = reduced.jobs in
    omega (arith, s, v, tasks, roots, jobs, members)
