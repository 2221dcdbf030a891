-- The variables of tasks are below a number where those of their maps are.
use Rattle.std.proofs.Common.{◌≡◌, ℕ, ◌<◌, Bool, true, false, cond, List, [], ◌∷◌, ◌++◌, length, sym, subst, inl, inr, arith, length-append}
use Rattle.std.specs.List.{list_any}
use Rattle.std.proofs.lemmas.Bool.{cases_lt}
use Rattle.std.proofs.lemmas.List.{get_or-map, length-map, get_or_append_left}
use Rattle.hy_formula.specs.Trees as tree
use Rattle.hy_formula.specs.Trees.{Tree}
use Rattle.hy_formula.specs.Normals.{Normal, always, never, literal, and, or, next, weak_next, until, release, normal_form}
use Rattle.hy_formula.specs.Renamed.{renamed}
use Rattle.ltl_closure.specs.Nodes as node
use Rattle.ltl_closure.specs.Nodes.{Node, node_at}
use Rattle.ltl_closure.specs.Closures.{same_form, with_new, with_form, with_forms, closure, form_in, node_of}
use Rattle.ltl_tableau.specs.WalkWords.{VariableBelow, VariablesBelow}
use Rattle.ltl_closure.specs.Jobs.{Task, variable_in, AreMappedBelow, form_of_task, forms_of, task_nodes}
use Rattle.ltl_closure.proofs.Closing.{last-form}

abbrev FormBelow : ℕ → Normal → Type 0
FormBelow n always = Unit {0}
FormBelow n never = Unit {0}
FormBelow n (literal b name v) = v < n
FormBelow n (and f g) = FormBelow n f × FormBelow n g
FormBelow n (or f g) = FormBelow n f × FormBelow n g
FormBelow n (next f) = FormBelow n f
FormBelow n (weak_next f) = FormBelow n f
FormBelow n (until f g) = FormBelow n f × FormBelow n g
FormBelow n (release f g) = FormBelow n f × FormBelow n g

module _ (n : ℕ) (map : ℕ → ℕ) (mapped : (v : ℕ) → map v < n) where
  normal-below : (b : Bool) (f : Tree) → FormBelow n (normal_form b (renamed map f))
  normal-below true tree.always = tt
  normal-below false tree.always = tt
  normal-below true tree.never = tt
  normal-below false tree.never = tt
  normal-below true (tree.atom a v) = mapped v
  normal-below false (tree.atom a v) = mapped v
  normal-below true (tree.not f) = normal-below false f
  normal-below false (tree.not f) = normal-below true f
  normal-below true (tree.and f g) = (normal-below true f, normal-below true g)
  normal-below false (tree.and f g) = (normal-below false f, normal-below false g)
  normal-below true (tree.or f g) = (normal-below true f, normal-below true g)
  normal-below false (tree.or f g) = (normal-below false f, normal-below false g)
  normal-below true (tree.implies f g) = (normal-below false f, normal-below true g)
  normal-below false (tree.implies f g) = (normal-below true f, normal-below false g)
  normal-below true (tree.iff f g) = ((normal-below true f, normal-below true g), (normal-below false f, normal-below false g))
  normal-below false (tree.iff f g) = ((normal-below true f, normal-below false g), (normal-below false f, normal-below true g))
  normal-below true (tree.next f) = normal-below true f
  normal-below false (tree.next f) = normal-below false f
  normal-below true (tree.finally f) = (tt, normal-below true f)
  normal-below false (tree.finally f) = (tt, normal-below false f)
  normal-below true (tree.globally f) = (tt, normal-below true f)
  normal-below false (tree.globally f) = (tt, normal-below false f)
  normal-below true (tree.until f g) = (normal-below true f, normal-below true g)
  normal-below false (tree.until f g) = (normal-below false f, normal-below false g)
  normal-below true (tree.release f g) = (normal-below true f, normal-below true g)
  normal-below false (tree.release f g) = (normal-below false f, normal-below false g)
  normal-below true (tree.weak f g) = (normal-below true g, (normal-below true f, normal-below true g))
  normal-below false (tree.weak f g) = (normal-below false g, (normal-below false f, normal-below false g))

module _ (n : ℕ) where
  abbrev AllBelow : List Normal → Type 0
  AllBelow members = (k : ℕ) → k < length members → FormBelow n (form_in members k)

  new-below : (f : Normal) (members : List Normal) → FormBelow n f → AllBelow members → AllBelow (with_new f members)
  new-below f members here all = step (list_any (same_form f) members)
    where
      last : AllBelow (members ++ f ∷ [])
      last k lt =
          let l = length-append members (f ∷ []) in
          let P : Normal → Type 0 = FormBelow n in
          elim (cases_lt k (length members)) [
            | inl old ↦ subst P (sym (get_or_append_left members (f ∷ []) always k old)) (all k old)
            | inr past ↦
                let e : length members ≡ k = omega (arith, l) in
                let Q : ℕ → Type 0 = λ q. FormBelow n (form_in (members ++ f ∷ []) q) in
                subst Q e (subst P (sym (last-form members f)) here)
          ]

      step : (b : Bool) → AllBelow (cond b members (members ++ f ∷ []))
      step true = all
      step false = last

  form-below : (f : Normal) (members : List Normal) → FormBelow n f → AllBelow members → AllBelow (with_form f members)
  form-below always members h all = new-below always members h all
  form-below never members h all = new-below never members h all
  form-below (literal b a v) members h all = new-below (literal b a v) members h all
  form-below (and f g) members (x, y) all = new-below (and f g) (with_form g (with_form f members)) (x, y) (form-below g (with_form f members) y (form-below f members x all))
  form-below (or f g) members (x, y) all = new-below (or f g) (with_form g (with_form f members)) (x, y) (form-below g (with_form f members) y (form-below f members x all))
  form-below (next f) members x all = new-below (next f) (with_form f members) x (form-below f members x all)
  form-below (weak_next f) members x all = new-below (weak_next f) (with_form f members) x (form-below f members x all)
  form-below (until f g) members (x, y) all = new-below (until f g) (with_form g (with_form f members)) (x, y) (form-below g (with_form f members) y (form-below f members x all))
  form-below (release f g) members (x, y) all = new-below (release f g) (with_form g (with_form f members)) (x, y) (form-below g (with_form f members) y (form-below f members x all))

  tasks-below : (tasks : List Task) (members : List Normal) → AreMappedBelow n tasks → AllBelow members → AllBelow (with_forms (forms_of tasks) members)
  tasks-below [] members mapped all = all
  tasks-below (task ∷ tasks) members (here, mapped) all =
      tasks-below tasks (with_form (form_of_task task) members) mapped
      (form-below (form_of_task task) members (normal-below n (variable_in task.map) here task.positive task.body) all)

  node-below : (members : List Normal) (f : Normal) → FormBelow n f → VariableBelow n (node_of members f)
  node-below members always h = tt
  node-below members never h = tt
  node-below members (literal b a v) h = h
  node-below members (and f g) h = tt
  node-below members (or f g) h = tt
  node-below members (next f) h = tt
  node-below members (weak_next f) h = tt
  node-below members (until f g) h = tt
  node-below members (release f g) h = tt

  pub variables-below : (tasks : List Task) → AreMappedBelow n tasks → VariablesBelow n (task_nodes tasks)
  variables-below tasks mapped k lt =
      let members : List Normal = closure (forms_of tasks) in
      let l = length-map members (node_of members) in
      let inside : k < length members = omega (arith, l) in
      let all : AllBelow members = tasks-below tasks [] mapped (λ q lt'. absurd (omega arith)) in
      let P : Node → Type 0 = VariableBelow n in
      subst P (sym (get_or-map (node_of members) members k always node.always inside)) (node-below members (form_in members k) (all k inside))
