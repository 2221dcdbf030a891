-- Tasks that are visited one after another.
use Rattle.std.proofs.Common.{◌≡◌, ℕ, zero, suc, ◌+◌, ◌<◌, ◌≤◌, Bool, true, false, not, List, [], ◌∷◌, ◌++◌, length, map, take, drop, get_or, All, None, Result, Ok, Err, IsErrAnd, IsErrOf, refl, sym, ap, ◌∙◌, subst, arith, append_assoc}
use Rattle.std.proofs.lemmas.List.{map-append, length-map, take_more, take-append-drop}
use Rattle.hy_formula.specs.Trees.{Tree, tree_of}
use Rattle.hy_formula.specs.Normals.{Normal, normal_form}
use Rattle.hy_formula.specs.Renamed.{renamed}
use Rattle.ltl_closure.specs.declared.job.Job.{Job}
use Rattle.ltl_closure.specs.declared.numbering.Numbering.{Numbering}
use Rattle.ltl_closure.specs.Nodes.{Node, node_at, PartsBelow}
use Rattle.ltl_closure.specs.Closures.{with_form, with_forms, closure, number_in, node_of, nodes_of}
use Rattle.ltl_closure.specs.Jobs.{Task, tasks_by, tasks_of, variable_in, form_of_task, forms_of, task_nodes, task_roots}
use Rattle.ltl_closure.specs.Plain.{plain_node}
use Rattle.ltl_closure.specs.Numbered.{Below, Closed, Stands, Visits, Visited, IsClosure}
use Rattle.ltl_closure.proofs.Closing.{Grown, grown-form, closed-forms, number-found, closure-numbers}
use Rattle.ltl_closure.proofs.Inserting.{number-grown}

append-nil : {A : Type 0} (xs : List A) → xs ++ [] ≡ xs
append-nil [] = refl
append-nil (x ∷ xs) = ap (λ ys. x ∷ ys) (append-nil xs)

forms-append : (xs ys : List Task) → forms_of (xs ++ ys) ≡ forms_of xs ++ forms_of ys
forms-append [] ys = refl
forms-append (x ∷ xs) ys = ap (λ fs. form_of_task x ∷ fs) (forms-append xs ys)

with-append : (xs ys members : List Normal) → with_forms (xs ++ ys) members ≡ with_forms ys (with_forms xs members)
with-append [] ys members = refl
with-append (x ∷ xs) ys members = with-append xs ys (with_form x members)

pub none-closed : Closed []
none-closed k lt = absurd (omega arith)

pub closure-closed : (forms : List Normal) → Closed (closure forms)
closure-closed forms = closed-forms forms [] none-closed

closure-push : (tasks : List Task) (task : Task) → closure (forms_of (tasks ++ task ∷ [])) ≡ with_form (form_of_task task) (closure (forms_of tasks))
closure-push tasks task = ap closure (forms-append tasks (task ∷ [])) ∙ with-append (forms_of tasks) (form_of_task task ∷ []) []

forms-longer : (forms members : List Normal) → Closed members → length members ≤ length (with_forms forms members)
forms-longer [] members closed = omega arith
forms-longer (f ∷ fs) members closed =
    let grown = grown-form f members closed in
    omega (arith, grown.longer, forms-longer fs (with_form f members) grown.closed)

closure-longer : (tasks more : List Task) → length (closure (forms_of tasks)) ≤ length (closure (forms_of (tasks ++ more)))
closure-longer tasks more =
    let e = ap closure (forms-append tasks more) ∙ with-append (forms_of tasks) (forms_of more) [] in
    let le = forms-longer (forms_of more) (closure (forms_of tasks)) (closure-closed (forms_of tasks)) in
    omega (arith, ap length e)

-- ---- the forms stand in their closure

abbrev pub AllThere : List Normal → List Normal → Type 0
AllThere members [] = Unit {0}
AllThere members (f ∷ fs) = Below members (length members) f × AllThere members fs

forms-stay : (forms members : List Normal) → Closed members → (f : Normal) → Below members (length members) f → Below (with_forms forms members) (length (with_forms forms members)) f
forms-stay [] members closed f there = there
forms-stay (g ∷ gs) members closed f (p, lt, inside, e) =
    let grown = grown-form g members closed in
    forms-stay gs (with_form g members) grown.closed f (p, omega (arith, grown.longer), omega (arith, grown.longer), grown.stays p inside ∙ e)

pub forms-there : (forms members : List Normal) → Closed members → AllThere (with_forms forms members) forms
forms-there [] members closed = tt
forms-there (f ∷ fs) members closed =
    let grown = grown-form f members closed in
    (forms-stay fs (with_form f members) grown.closed f grown.there, forms-there fs (with_form f members) grown.closed)

numbers-stay : (old new : List Normal) (f : Normal) → Grown old new f → (fs : List Normal) → AllThere old fs → map (number_in new) fs ≡ map (number_in old) fs
numbers-stay old new f grown [] there = refl
numbers-stay old new f grown (g ∷ gs) (here, there) = let e = number-grown old new f grown g here in let rest = numbers-stay old new f grown gs there in cc

-- ---- one more task

visited-push : (tasks : List Task) (task : Task) (old new : Numbering) (roots : List ℕ) (g : Normal) (k : ℕ) → Visited tasks old roots → Visits old (form_of_task task) None g new k → new.full ≡ false → Visited (tasks ++ task ∷ []) new (roots ++ k ∷ [])
visited-push tasks task old new roots g k done visits room =
    let forms : List Normal = closure (forms_of tasks) in
    let f : Normal = form_of_task task in
    let grown : Grown forms (with_form f forms) f = grown-form f forms done.stands.closed in
    let v = visits forms done.stands tt in
    let P : List Normal → Type 0 = λ l. Stands l new in
    let there = forms-there (forms_of tasks) [] none-closed in
    record {
      stands = subst P (sym (closure-push tasks task)) v.0;
      room = room;
      roots_are =
          ap (λ r. r ++ k ∷ []) (done.roots_are ∙ sym (numbers-stay forms (with_form f forms) f grown (forms_of tasks) there))
          ∙ ap (λ r. map (number_in (with_form f forms)) (forms_of tasks) ++ r ∷ []) (v.1.number room)
          ∙ sym (map-append (number_in (with_form f forms)) (forms_of tasks) (f ∷ []))
          ∙ ap (λ l. map (number_in l) (forms_of tasks ++ f ∷ [])) (sym (closure-push tasks task))
          ∙ ap (map (number_in (closure (forms_of (tasks ++ task ∷ []))))) (sym (forms-append tasks (task ∷ [])));
    }

tasks_by-append : (body : Tree) (b : Bool) (xs ys : List (List ℕ)) → tasks_by body b (xs ++ ys) ≡ tasks_by body b xs ++ tasks_by body b ys
tasks_by-append body b [] ys = refl
tasks_by-append body b (x ∷ xs) ys = ap (λ ts. record { body = body; positive = b; map = x } ∷ ts) (tasks_by-append body b xs ys)

module _ (tasks : List Task) (body : Tree) (b : Bool) (maps : List (List ℕ)) (i : ℕ) (m : List ℕ) (lt : i < length maps) (at : m ≡ get_or maps i m) where
  abbrev task : Task
  task = record { body = body; positive = b; map = m }

  one-more : tasks ++ tasks_by body b (take (i + 1) maps) ≡ (tasks ++ tasks_by body b (take i maps)) ++ task ∷ []
  one-more =
      ap (λ ms. tasks ++ tasks_by body b ms) (take_more maps i m lt ∙ ap (λ x. take i maps ++ x ∷ []) (sym at))
      ∙ ap (λ ts. tasks ++ ts) (tasks_by-append body b (take i maps) (m ∷ []))
      ∙ sym (append_assoc tasks (tasks_by body b (take i maps)) (tasks_by body b (m ∷ [])))

  abbrev other : Normal
  other = normal_form (not b) (renamed (variable_in m) body)

  module _ (old new : Numbering) (roots : List ℕ) (k : ℕ) (done : Visited (tasks ++ tasks_by body b (take i maps)) old roots) (visits : Visits old (normal_form b (renamed (variable_in m) body)) None other new k) where
    pub more-visited : new.full ≡ false → (more : List ℕ) → more ≡ roots ++ k ∷ [] → Visited (tasks ++ tasks_by body b (take (i + 1) maps)) new more
    more-visited room more is =
        let P : List Task → Type 0 = λ ts. Visited ts new more in
        let Q : List ℕ → Type 0 = Visited ((tasks ++ tasks_by body b (take i maps)) ++ task ∷ []) new in
        subst P (sym one-more) (subst Q (sym is) (visited-push (tasks ++ tasks_by body b (take i maps)) task old new roots other k done visits room))

    pub too-many : new.full ≡ true → 1024 < length (closure (forms_of (tasks ++ tasks_by body b maps)))
    too-many full =
        let so_far : List Task = tasks ++ tasks_by body b (take i maps) in
        let v = visits (closure (forms_of so_far)) done.stands tt in
        let most : 1024 < length (with_form (form_of_task task) (closure (forms_of so_far))) = v.0.full full in
        let here : length (closure (forms_of (so_far ++ task ∷ []))) ≡ length (with_form (form_of_task task) (closure (forms_of so_far))) = ap length (closure-push so_far task) in
        let whole : tasks ++ tasks_by body b maps ≡ (so_far ++ task ∷ []) ++ tasks_by body b (drop (i + 1) maps) =
        ap (λ ms. tasks ++ tasks_by body b ms) (sym (take-append-drop (i + 1) maps))
        ∙ ap (λ ts. tasks ++ ts) (tasks_by-append body b (take (i + 1) maps) (drop (i + 1) maps))
        ∙ sym (append_assoc tasks (tasks_by body b (take (i + 1) maps)) (tasks_by body b (drop (i + 1) maps)))
        ∙ ap (λ ts. ts ++ tasks_by body b (drop (i + 1) maps)) one-more
        in
        let le = closure-longer (so_far ++ task ∷ []) (tasks_by body b (drop (i + 1) maps)) in
        omega (arith, ap (λ ts. length (closure (forms_of ts))) whole)

-- ---- jobs

abbrev pub of_job : Job → List Task
of_job job = tasks_by (tree_of job.body) job.positive job.maps

tasks_of-append : (xs ys : List Job) → tasks_of (xs ++ ys) ≡ tasks_of xs ++ tasks_of ys
tasks_of-append [] ys = refl
tasks_of-append (x ∷ xs) ys = ap (λ ts. of_job x ++ ts) (tasks_of-append xs ys) ∙ sym (append_assoc (of_job x) (tasks_of xs) (tasks_of ys))

module _ (jobs : List Job) (i : ℕ) (job : Job) (lt : i < length jobs) (at : job ≡ get_or jobs i job) where
  pub one-more_job : tasks_of (take (i + 1) jobs) ≡ tasks_of (take i jobs) ++ of_job job
  one-more_job =
      ap tasks_of (take_more jobs i job lt ∙ ap (λ x. take i jobs ++ x ∷ []) (sym at))
      ∙ tasks_of-append (take i jobs) (job ∷ [])
      ∙ ap (λ ts. tasks_of (take i jobs) ++ ts) (append-nil (of_job job))

  pub too-many_jobs : 1024 < length (closure (forms_of (tasks_of (take i jobs) ++ of_job job))) → 1024 < length (task_nodes (tasks_of jobs))
  too-many_jobs many =
      let whole : tasks_of jobs ≡ (tasks_of (take i jobs) ++ of_job job) ++ tasks_of (drop (i + 1) jobs) =
      ap tasks_of (sym (take-append-drop (i + 1) jobs)) ∙ tasks_of-append (take (i + 1) jobs) (drop (i + 1) jobs) ∙ ap (λ ts. ts ++ tasks_of (drop (i + 1) jobs)) one-more_job
      in
      let le = closure-longer (tasks_of (take i jobs) ++ of_job job) (tasks_of (drop (i + 1) jobs)) in
      let same : length (closure (forms_of (tasks_of jobs))) ≡ length (closure (forms_of ((tasks_of (take i jobs) ++ of_job job) ++ tasks_of (drop (i + 1) jobs)))) = ap (λ ts. length (closure (forms_of ts))) whole in
      let l : length (task_nodes (tasks_of jobs)) ≡ length (closure (forms_of (tasks_of jobs))) = length-map (closure (forms_of (tasks_of jobs))) (node_of (closure (forms_of (tasks_of jobs)))) in
      omega arith

-- ---- what is made

numbers-within : (members fs : List Normal) → AllThere members fs → (k d : ℕ) → k < length (map (number_in members) fs) → get_or (map (number_in members) fs) k d < length (nodes_of members)
numbers-within members [] there k d lt' = absurd (omega arith)
numbers-within members (f ∷ fs) ((p, _, lt, e), there) zero d lt' =
    let (le, at) = number-found members f p lt e in
    let l = length-map members (node_of members) in
    omega arith
numbers-within members (f ∷ fs) (here, there) (suc k) d lt' = numbers-within members fs there k d (omega arith)

pub is-closure : (tasks : List Task) (n : Numbering) (roots : List ℕ) → Visited tasks n roots → length n.members.keys ≤ 1024 → IsClosure (map plain_node n.members.keys) roots
is-closure tasks n roots done few =
    let members : List Normal = closure (forms_of tasks) in
    let P : List Node → Type 0 = λ nodes. (k : ℕ) → k < length nodes → PartsBelow k (node_at nodes k) in
    let Q : List Node → Type 0 = λ nodes. All (λ k. k < length nodes) (task_roots tasks) in
    let R : List ℕ → Type 0 = All (λ k. k < length (map plain_node n.members.keys)) in
    let is = done.stands.nodes done.room in
    let l = length-map n.members.keys plain_node in
    record {
      few = omega arith;
      operands = subst P (sym is) (closure-numbers (forms_of tasks)).parts;
      within = subst R (sym done.roots_are) (subst Q (sym is) (numbers-within members (forms_of tasks) (forms-there (forms_of tasks) [] none-closed)));
    }

-- the error that `?` hands on is the error
pub same-error : {S T E : Type 0} (r : Result S E) (x e : E) → IsErrAnd r (λ y. y ≡ x) → IsErrOf r e → IsErrOf {T = T} (Err x) e
same-error (Ok _) x e h i = absurd h
same-error (Err y) x e h i = let z : y ≡ e = cc in ap Err (sym h ∙ z)

pub limit_jobs : (jobs items : List Job) (i : ℕ) (job : Job) → items ≡ jobs → i < length items → job ≡ get_or items i job
    → 1024 < length (closure (forms_of (tasks_of (take i jobs) ++ of_job job))) → 1024 < length (task_nodes (tasks_of jobs))
limit_jobs jobs items i job is lt at many =
    let lt' : i < length jobs = omega (arith, ap length is) in
    let at' : job ≡ get_or jobs i job = cc in
    too-many_jobs jobs i job lt' at' many

pub visited_jobs : (jobs items : List Job) (i : ℕ) (job : Job) (n : Numbering) (roots : List ℕ) → items ≡ jobs → i < length items → job ≡ get_or items i job
    → Visited (tasks_of (take i jobs) ++ of_job job) n roots → Visited (tasks_of (take (i + 1) jobs)) n roots
visited_jobs jobs items i job n roots is lt at done =
    let lt' : i < length jobs = omega (arith, ap length is) in
    let at' : job ≡ get_or jobs i job = cc in
    let P : List Task → Type 0 = λ ts. Visited ts n roots in
    subst P (sym (one-more_job jobs i job lt' at')) done
