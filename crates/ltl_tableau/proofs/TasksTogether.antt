-- Tasks hold together exactly where there is an accepting walk, and never under a rank proof.
use Rattle.std.proofs.Common.{◌≡◌, ℕ, ◌<◌, List, [], ◌∷◌, length, map, inl, inr, sym, subst, arith}
use Rattle.std.proofs.lemmas.List.{length-map}
use Rattle.hy_formula.specs.Temporal.{Span, endless, Words, IsDecided}
use Rattle.hy_formula.specs.Normals.{Normal, HoldsAt}
use Rattle.hy_formula.specs.Lassos.{Lasso}
use Rattle.hy_bits.specs.Letter.{Letter}
use Rattle.hy_lasso.specs.Words.{lasso_words, AreLassos}
use Rattle.ltl_tableau.specs.Branches.{Members, Has, Branch}
use Rattle.ltl_closure.specs.Closures.{closure, number_in, form_in, node_of}
use Rattle.ltl_tableau.specs.Ranks.{RankProof, IsRankProof}
use Rattle.ltl_tableau.specs.Walks.{IsWalk, IsAccepting}
use Rattle.ltl_tableau.specs.WalkWords.{lassos_of}
use Rattle.ltl_closure.specs.Jobs.{Task, AreMappedBelow, AllHold, form_of_task, forms_of, task_nodes}
use Rattle.ltl_tableau.specs.Tasks.{set_of, root_set}
use Rattle.ltl_tableau.proofs.Sets.{has-new, has-old, has-cases, has-none}
use Rattle.hy_lasso.proofs.LassoWords.{has-period, tuple-repeats, decided-lassos}
use Rattle.ltl_closure.proofs.Closing.{number-found, closure-numbers}
use Rattle.ltl_closure.proofs.Tasks.{AllThere, forms-there}
use Rattle.ltl_closure.proofs.Roots.{task-form}
use Rattle.ltl_tableau.proofs.Running as running
use Rattle.ltl_tableau.proofs.Refuting.{no-fair_run}
use Rattle.ltl_tableau.proofs.Walking.{accepting-walk}
use Rattle.ltl_tableau.proofs.Bounded.{variables-below}
use Rattle.ltl_tableau.proofs.Gone.{walk-sound, are-lassos}

-- the numbers of forms, as a set
abbrev numbers_of : List Normal → List Normal → Members
numbers_of members forms = set_of (map (number_in members) forms)

-- ---- the roots hold where the tasks do

module _ (span : Span) (words : Words) (d : IsDecided span words) (members : List Normal) where
  roots-hold : (tasks : List Task) → AllThere members (forms_of tasks) → AllHold span words tasks → (k : ℕ) → Has (numbers_of members (forms_of tasks)) k → HoldsAt span words (form_in members k) 0 × (k < length members)
  roots-hold [] there hold k has = absurd (has-none k has)
  roots-hold (task ∷ tasks) (here, there) (holds, hold) k has =
      elim (has-cases _ (number_in members (form_of_task task)) k has) [
        | inr rest ↦ roots-hold tasks there hold k rest
        | inl e ↦
            let (p, lt, inside, at) = here in
            let (le, found) = number-found members (form_of_task task) p inside at in
            let P : Normal → Type 0 = λ f. HoldsAt span words f 0 in
            let Q : ℕ → Type 0 = λ q. HoldsAt span words (form_in members q) 0 in
            (subst Q (sym e) (subst P (sym found) ((task-form span words d task).1 holds)), omega arith)
      ]

  tasks-hold : (tasks : List Task) → AllThere members (forms_of tasks) → ((k : ℕ) → k < length members → Has (numbers_of members (forms_of tasks)) k → HoldsAt span words (form_in members k) 0) → AllHold span words tasks
  tasks-hold [] there hold = tt
  tasks-hold (task ∷ tasks) (here, there) hold =
      let (p, lt, inside, at) = here in
      let (le, found) = number-found members (form_of_task task) p inside at in
      let P : Normal → Type 0 = λ f. HoldsAt span words f 0 in
      let k : ℕ = number_in members (form_of_task task) in (
        (task-form span words d task).0 (subst P found (hold k (omega arith) (has-new _ k))),
        tasks-hold tasks there (λ q lt' has. hold q lt' (has-old _ k q has)),
      )

module _ (tasks : List Task) where
  abbrev members : List Normal
  members = closure (forms_of tasks)

  there : AllThere members (forms_of tasks)
  there = forms-there (forms_of tasks) [] (λ k lt. absurd (omega arith))

  l : length (task_nodes tasks) ≡ length members
  l = length-map members (node_of members)

  abbrev form : ℕ → Normal
  form k = form_in members k

  start : (words : Words) → IsDecided endless words → AllHold endless words tasks → (k : ℕ) → Has (root_set tasks) k → HoldsAt endless words (form k) 0 × (k < length (task_nodes tasks))
  start words d hold k has = let (h, lt) = roots-hold endless words d members tasks there hold k has in (h, omega (arith, l))

  -- a tuple on which the tasks hold gives an accepting walk
  pub walk-of : (tuple : List (Lasso Letter)) → AreLassos tuple → AllHold endless (lasso_words tuple) tasks → (walk : Lasso Branch) × IsWalk (task_nodes tasks) (root_set tasks) walk × IsAccepting (task_nodes tasks) walk
  walk-of tuple good hold =
      let (s, c, period) = has-period tuple good in
      accepting-walk (task_nodes tasks) form (lasso_words tuple) s c (tuple-repeats tuple s c period) (closure-numbers (forms_of tasks)) (root_set tasks) (start (lasso_words tuple) (decided-lassos tuple good) hold)

  -- an accepting walk gives a tuple on which the tasks hold
  pub tuple-of : (n : ℕ) → AreMappedBelow n tasks → (walk : Lasso Branch) → IsWalk (task_nodes tasks) (root_set tasks) walk → IsAccepting (task_nodes tasks) walk → AllHold endless (lasso_words (lassos_of (task_nodes tasks) walk n)) tasks
  tuple-of n mapped walk is accepting =
      tasks-hold endless _ (decided-lassos _ (are-lassos (task_nodes tasks) walk n is.some)) members tasks there
      (λ k lt has. walk-sound (task_nodes tasks) form n (closure-numbers (forms_of tasks)) (variables-below n tasks mapped) (root_set tasks) walk is accepting k (omega (arith, l)) has)

  -- under a rank proof the tasks hold on no words
  pub never-together : (proof : RankProof) → IsRankProof (task_nodes tasks) (root_set tasks) proof → (words : Words) → IsDecided endless words → ¬ AllHold endless words tasks
  never-together proof valid words d hold =
      no-fair_run (task_nodes tasks) (root_set tasks) proof valid
      (running.run (task_nodes tasks) form words d (closure-numbers (forms_of tasks)) (root_set tasks) (start words d hold))
      (running.run-goes (task_nodes tasks) form words d (closure-numbers (forms_of tasks)) (root_set tasks) (start words d hold))
      (running.run-fair (task_nodes tasks) form words d (closure-numbers (forms_of tasks)) (root_set tasks) (start words d hold))
