-- A tuple of lassos that fulfils a plan is a path to bad of the plan's safe net, and what is seen of a path fulfils the
-- plan.
use Rattle.std.proofs.Common.{◌≡◌, ℕ, suc, ◌+◌, ◌-◌, ◌/◌, ◌%◌, ◌<◌, Bool, true, List, [], ◌∷◌, length, get_or, IsTrue, unwrap_or, false, inl, inr, refl, sym, ap, ◌∙◌, subst, arith}
use Rattle.std.specs.FinSet.{contains, contains-empty, empty}
use Rattle.std.specs.Ordering.{nat_cmp}
use Rattle.std.proofs.lemmas.Bool.{cases_lt}
use Rattle.std.proofs.lemmas.List.{get_or_past, length-map}
use Rattle.hy_base.specs.Rows.{listed}
use Rattle.hy_base.proofs.Listed.{at-listed, length-listed}
use Rattle.hy_bits.specs.Letter.{Letter}
use Rattle.hy_formula.specs.Lassos as letters
use Rattle.hy_formula.specs.Temporal.{IsDecided, Words, endless}
use Rattle.hy_formula.specs.Normals.{HoldsAt, Normal}
use Rattle.hy_formula.proofs.Repeating.{decided-repeating}
use Rattle.hy_lasso.specs.NormalForms.{IsNormal}
use Rattle.hy_lasso.specs.Words.{AreLassos, lasso_words, letter_at, no_lasso}
use Rattle.hy_lasso.proofs.LassoWords.{decided-lassos, in-cycle}
use Rattle.ltl_closure.specs.Closures.{closure, form_in}
use Rattle.ltl_closure.specs.Jobs.{AllHold, Task, forms_of, task_nodes, task_roots}
use Rattle.ltl_closure.specs.Nodes as node
use Rattle.ltl_closure.specs.Nodes.{Node, Numbers, node_at}
use Rattle.ltl_closure.proofs.Closing.{closure-numbers}
use Rattle.ltl_closure.proofs.Roots.{root-right}
use Rattle.ltl_tableau.specs.WalkWords.{VariableBelow}
use Rattle.ltl_tableau.proofs.Bounded.{variables-below}
use Rattle.ea_reduce.specs.Fulfilled.{Fulfils, IsFulfillable}
use Rattle.ea_reduce.specs.Plans.{PlainPlan, plan_tasks}
use Rattle.aig_net.specs.declared.run.Run.{Run}
use Rattle.aig_net.specs.declared.run.ValueLasso.{ValueLasso}
use Rattle.aig_net.specs.declared.signals.Signal.{Signal}
use Rattle.aig_net.specs.Executions.{IsExecution, IsLassoExecution, Lasso, Recurs, Word, gone, lasso_of, part}
use Rattle.aig_net.specs.Nets.{Below, IsNet, Net, literal_at, literal_value, variables}
use Rattle.aig_net.specs.Signals.{visible}
use Rattle.aig_net.specs.Simulations.{IsExecutionOf, valuations}
use Rattle.aig_net.proofs.Closings.{gone-execution, recurring-execution}
use Rattle.aig_net.proofs.LassoRuns.{run-execution}
use Rattle.aig_net.proofs.Literals.{value-same}
use Rattle.aig_net.proofs.Rounds.{gone-recurs, recurring}
use Rattle.self_compose.specs.Copies.{compose, copy}
use Rattle.self_compose.proofs.Periods.{join-lasso}
use Rattle.self_compose.proofs.Tuples.{composed-net, copy-recurs, copy-value}
use Rattle.sym_tableau.specs.Oracles.{read, signal_in}
use Rattle.sym_tableau.proofs.AttachedRange.{attached-net}
use Rattle.sym_tableau.proofs.Foretelling.{new-execution, wider, wider-recurs}
use Rattle.sym_tableau.proofs.Heeding.{roots-hold}
use Rattle.live_safe.specs.Paths.{IsBadPath}
use Rattle.live_safe.specs.Safe.{shown_word}
use Rattle.live_safe.proofs.Saving.{lasso-path}
use Rattle.wit_lasso.specs.FormulaNets.{AreOwn, Tableau, copy_signals}
use Rattle.wit_lasso.specs.Seeing.{IsTraceOf}
use Rattle.wit_lasso.specs.Unfoldings.{AreUnfolded, Saves, copy_lasso, run_at}
use Rattle.wit_lasso.proofs.Checking.{old, old-recurs, own-execution}
use Rattle.wit_lasso.proofs.CopySignals.{copies-below, signal-copied}
use Rattle.wit_lasso.proofs.PathLassos.{OneExecution, copy-same, lasso-at, seen-same, some-saves}
use Rattle.formula_nets.specs.Witnesses.{AreTraces}
use Rattle.free_net.specs.FreeNets.{HasName, is_among, plan_inputs, plan_names, plan_net, plan_safe, plan_signals, plan_tableau}
use Rattle.free_net.specs.Reduced.{IsReduced}
use Rattle.free_net.proofs.Agreeing.{members-say}
use Rattle.free_net.proofs.Seeing.{free-is, free-own, no-input, own-is, own_lasso, own-shows, names_shown, seen_lasso, seen-shows}
use Rattle.free_net.proofs.Naming.{name-from_nodes, name-there}
use Rattle.free_net.proofs.Roots.{all-hold, roots-inside, roots-many, task-holds}

normal-some : (l : letters.Lasso Letter) → IsNormal l → 0 < length l.cycle
normal-some l is = at l.cycle refl
  where
    at : (c : List Letter) → l.cycle ≡ c → 0 < length c
    at [] e = absurd (let wrong : 0 ≡ 1 = is.primitive [] 0 e in omega (arith, wrong))
    at (x ∷ c) e = omega arith

module _ (plan : PlainPlan) (reduced : IsReduced plan) where
  abbrev names : List ℕ
  names = plan_names plan

  abbrev n : ℕ
  n = plan.vars

  abbrev net : Net
  net = plan_inputs plan

  abbrev signals : List Signal
  signals = plan_signals plan

  abbrev all : Net
  all = compose net n

  abbrev t : Tableau
  t = plan_tableau plan

  abbrev whole : Net
  whole = plan_net plan

  abbrev tasks : List Task
  tasks = plan_tasks plan

  abbrev nodes : List Node
  nodes = task_nodes tasks

  abbrev roots : List ℕ
  roots = task_roots tasks

  abbrev sig : ℕ → ℕ → ℕ
  sig = signal_in (copy_signals n signals)

  abbrev form : ℕ → Normal
  form = form_in (closure (forms_of tasks))

  some : 0 < n
  some = reduced.some

  good : IsNet net
  good = free-is (length names)

  are : AreOwn net signals
  are = free-own names

  numbers : Numbers nodes form
  numbers = closure-numbers (forms_of tasks)

  all-net : IsNet all
  all-net = composed-net net n some good

  sig-below : (a v : ℕ) → Below (variables all) (sig a v)
  sig-below a v = copies-below net n some signals are a v

  whole-net : IsNet whole
  whole-net = attached-net all nodes all-net sig roots sig-below numbers.parts

  inside : (r : ℕ) → r < length roots → literal_at roots r < length nodes
  inside = roots-inside tasks

  -- the literals of the closure
  abbrev Plain : ℕ → ℕ → Type 0
  Plain a v = (is_among names a ≡ true) × (v < n)

  plain-literals : (k a v : ℕ) (b : Bool) → k < length nodes → node_at nodes k ≡ node.literal b a v →
      Plain a v
  plain-literals k a v b lt e =
      let V : Node → Type 0 = VariableBelow n in
      (name-there nodes k a v b lt e, subst V e (variables-below n tasks reduced.below k lt))

  seen-copy : (word : Word) (a c i : ℕ) → c < n →
      read sig word a c i ≡ visible signals (copy n c word) a i
  seen-copy word a c i lt =
      ap (literal_value (word i)) (signal-copied net n a c lt signals are)
      ∙ copy-value n c (word i) (signal_in signals a 0)

  decided-at : (word : Word) (s c : ℕ) → Recurs word s c → IsDecided endless (read sig word)
  decided-at word s c r =
      decided-repeating s c (read sig word)
      (record {
        some = r.some;
        same = λ a x i le. value-same (word (i + c)) (word i) (sig a x) (r.same i (sig a x / 2) le);
      })

  -- what the roots say of words
  Rooted : Words → Type 0
  Rooted words =
      (r : ℕ) → r < length roots → HoldsAt endless words (form (literal_at roots r)) 0

  rooted-same : (words words' : Words) →
      ((a v i : ℕ) → (is_among names a ≡ true) × (v < n) → words a v i ≡ words' a v i) →
      Rooted words → Rooted words'
  unfolding Rooted
  rooted-same words words' same h r lt =
      members-say Plain endless words words' same nodes form numbers plain-literals
      (literal_at roots r) (inside r lt) 0 (h r lt)

  rooted-tasks : (words : Words) → IsDecided endless words → AllHold endless words tasks →
      Rooted words
  unfolding Rooted
  rooted-tasks words decided hold r lt =
      let m = roots-many tasks in
      let (task, at, h) = task-holds endless words tasks hold r (omega (arith, m, lt)) in
      (root-right endless words decided tasks r task at).1 h

  tasks-rooted : (words : Words) → IsDecided endless words → Rooted words →
      AllHold endless words tasks
  unfolding Rooted
  tasks-rooted words decided h =
      let m = roots-many tasks in
      all-hold endless words tasks (λ r task lt at.
      (root-right endless words decided tasks r task at).0 (h r (omega (arith, m, lt))))

  -- ---- from a tuple to a path

  pub to-path : IsFulfillable plan → (k : ℕ) × (word : Word) × IsBadPath (plan_safe plan) k word
  unfolding Rooted
  to-path (tuple, fulfils) =
      let lassos : ℕ → Lasso = λ c. own_lasso names (get_or tuple c no_lasso) in
      let cycles : (c : ℕ) → c < n → 0 < length (get_or tuple c no_lasso).cycle =
      λ c lt. fulfils.lassos c (let m = fulfils.count in omega (arith, m, lt)) in
      let (lasso, execution, same) = join-lasso net n lassos good some
      (λ c lt. own-is names (get_or tuple c no_lasso) (cycles c lt)) in
      let word : Word = gone lasso in
      let s : ℕ = length lasso.stem in
      let p : ℕ = length lasso.cycle in
      let recurs : Recurs word s p = gone-recurs lasso execution.some in
      let is : IsExecution all word = gone-execution all lasso execution in
      let decided : IsDecided endless (read sig word) = decided-at word s p recurs in
      let agree : (a v i : ℕ) → (is_among names a ≡ true) × (v < n) →
      lasso_words tuple a v i ≡ read sig word a v i =
      λ a v i (c, lt). sym (seen-copy word a v i lt
      ∙ value-same (copy n v word i) (gone (lassos v) i) (signal_in signals a 0)
      (same v i (signal_in signals a 0 / 2) lt)
      ∙ own-shows names (get_or tuple v no_lasso) (cycles v lt) a i c) in
      let hold : Rooted (read sig word) = rooted-same (lasso_words tuple) (read sig word) agree
      (rooted-tasks (lasso_words tuple) (decided-lassos tuple fulfils.lassos) fulfils.hold) in
      let new : Word = wider all all-net nodes form numbers sig sig-below roots word is decided in
      let new-is : IsExecution whole new =
      new-execution all all-net nodes form numbers sig sig-below roots word is decided inside
      hold in
      let new-recurs : Recurs new (suc s) p =
      wider-recurs all all-net nodes form numbers sig sig-below roots word is decided s p recurs in
      let made : IsLassoExecution whole (lasso_of new (suc s) p) =
      recurring-execution whole new (suc s) p new-recurs new-is in
      let found = lasso-path whole whole-net (lasso_of new (suc s) p) made in
      (length (part new 0 (suc s)) + length (part new (suc s) p), found.0, found.1)

  -- ---- from a path to a tuple

  module _ (k : ℕ) (word : Word) (bad : IsBadPath (plan_safe plan) k word) (save : ℕ)
      (saves : Saves whole k word save) where
    abbrev lasso : Lasso
    lasso = lasso_of (shown_word whole word) save (k - save)

    is : IsLassoExecution whole lasso
    is = lasso-at whole k word bad save saves

    abbrev before : Word
    before = old net good n some t lasso is

    -- the lasso of a copy
    abbrev own : ℕ → Lasso
    own c = lasso_of (copy n c before) (length lasso.stem) (length lasso.cycle)

    seen-own : (a c i : ℕ) → c < n → read sig before a c i ≡ visible signals (gone (own c)) a i
    seen-own a c i lt =
        seen-copy before a c i lt
        ∙ sym (value-same (gone (own c) i) (copy n c before i) (signal_in signals a 0)
        (recurring (copy n c before) (length lasso.stem) (length lasso.cycle)
        (copy-recurs n before (length lasso.stem) (length lasso.cycle) c
        (old-recurs net good n some t lasso is)) i (signal_in signals a 0 / 2)))

    shown-fulfil : (tuple : List (letters.Lasso Letter)) → length tuple ≡ n → AreLassos tuple →
        ((a v i : ℕ) → (is_among names a ≡ true) × (v < n) →
        visible signals (gone (own v)) a i ≡ lasso_words tuple a v i) → Fulfils plan tuple
    unfolding Rooted
    shown-fulfil tuple many lassos-are agree = record {
      count = many;
      lassos = lassos-are;
      hold = tasks-rooted (lasso_words tuple) (decided-lassos tuple lassos-are)
          (rooted-same (read sig before) (lasso_words tuple)
          (λ a v i (c, lt). seen-own a v i lt ∙ agree a v i (c, lt))
          (λ r lt. roots-hold all nodes sig roots (gone lasso) (gone-execution whole lasso is) form numbers r lt
          (inside r lt)));
    }

    seen-fulfil : IsFulfillable plan
    seen-fulfil =
        let tuple : List (letters.Lasso Letter) = listed 0 n (λ c. seen_lasso signals names (own c)) in
        let many : length tuple ≡ n = length-listed 0 n (λ c. seen_lasso signals names (own c)) in
        let at : (c : ℕ) → c < n → get_or tuple c no_lasso ≡ seen_lasso signals names (own c) =
        λ c lt. let plain : 0 + c ≡ c = omega arith in
        at-listed 0 n (λ c. seen_lasso signals names (own c)) no_lasso c lt
        ∙ ap (λ c. seen_lasso signals names (own c)) plain in
        let some : (c : ℕ) → c < n → 0 < length (own c).cycle =
        λ c lt. (own-execution net good n some t lasso is c lt).some in (
          tuple,
          shown-fulfil tuple many
              (λ c lt.
              let few : c < n = omega (arith, many, lt) in
              let l = length-map (own c).cycle (λ v. names_shown signals v names) in
              let s = some c few in
              let C : letters.Lasso Letter → Type 0 = λ l. 0 < length l.cycle in
              subst C (sym (at c few)) (omega (arith, l, s)))
              (λ a v i (c, lt).
              sym (ap (λ l. contains (letter_at l i) a) (at v lt)
              ∙ seen-shows signals names (own v) (some v lt) a i c)),
        )

  pub from-path : ((k : ℕ) × (word : Word) × IsBadPath (plan_safe plan) k word) → IsFulfillable plan
  from-path (k, word, bad) =
      let (save, saves, _) = some-saves whole k word bad in
      seen-fulfil k word bad save saves

  pub traces-fulfil : OneExecution → (k : ℕ) (word : Word) (runs : List Run)
      (traces : List (letters.Lasso Letter)) → IsBadPath (plan_safe plan) k word →
      AreUnfolded net n t k word runs → AreTraces net signals runs traces → Fulfils plan traces
  traces-fulfil only k word runs traces bad unf traced =
      shown-fulfil k word bad unf.save unf.saves traces many lassos-are (λ a v i (c, lt). agree a v i lt)
    where
      many : length traces ≡ n
      many = traced.many ∙ unf.many

      each : (c : ℕ) → c < n → IsTraceOf net signals (run_at runs c) (get_or traces c no_lasso)
      each c lt = traced.each c (let m = unf.many in omega (arith, m, lt))

      lassos-are : AreLassos traces
      lassos-are c lt =
          normal-some (get_or traces c no_lasso) (each c (let m = many in omega (arith, m, lt))).normal

      agree : (a v i : ℕ) → v < n →
          visible signals (gone (own k word bad unf.save unf.saves v)) a i ≡ lasso_words traces a v i
      agree a v i lt =
          let e = each v lt in
          let path = copy_lasso net n t word k unf.save v in
          let (values, of, same) = run-execution net path (run_at runs v) good
          (unf.executions v lt) (unf.runs_are v lt) in
          let one : values ≡ e.values = only net (run_at runs v) values e.values good of e.execution in
          ap (λ l. visible signals (gone l) a i) (copy-same net good n some t k word unf.save
          unf.saves.within (is k word bad unf.save unf.saves) v)
          ∙ sym (seen-same net signals are (valuations values) path same a i)
          ∙ ap (λ (x : ValueLasso). visible signals (gone (valuations x)) a i) one
          ∙ sym (e.shows i a)

-- Each name that is seen is one of the closure's literals.
pub traces-named : (plan : PlainPlan) (runs : List Run) (traces : List (letters.Lasso Letter)) →
    AreTraces (plan_inputs plan) (plan_signals plan) runs traces → (name v i : ℕ) →
    IsTrue (lasso_words traces name v i) → HasName (task_nodes (plan_tasks plan)) name
traces-named plan runs traces are name v i h =
    elim (cases_lt v (length traces)) [
      | inl lt ↦
          let e = are.each v (let m = are.many in omega (arith, m, lt)) in
          let seen : visible (plan_signals plan) (gone (valuations e.values)) name i ≡ true =
          sym (e.shows i name) ∙ h in
          at (is_among (plan_names plan) name) refl e.values e.execution seen
      | inr le ↦
          let past : get_or traces v no_lasso ≡ no_lasso = get_or_past traces v no_lasso le in
          let nothing : letter_at no_lasso i ≡ empty = lasso-none i in
          absurd (let none : contains (letter_at (get_or traces v no_lasso) i) name ≡ false =
          ap (λ l. contains (letter_at l i) name) past ∙ ap (λ l. contains l name) nothing
          ∙ contains-empty nat_cmp name in cc)
    ]
  where
    lasso-none : (i : ℕ) → letter_at no_lasso i ≡ empty
    lasso-none i = in-cycle empty no_lasso i (omega arith) ∙ get_or_past [] ((i - 0) % 0) empty (omega arith)

    at : (b : Bool) → is_among (plan_names plan) name ≡ b → (values : ValueLasso) →
        IsExecutionOf (plan_inputs plan) (run_at runs v) values →
        visible (plan_signals plan) (gone (valuations values)) name i ≡ true →
        HasName (task_nodes (plan_tasks plan)) name
    at true known values of seen = name-from_nodes (task_nodes (plan_tasks plan)) name known
    at false none values of seen =
        absurd (let dark : visible (plan_signals plan) (gone (valuations values)) name i ≡ false =
        ap (λ o. literal_value (gone (valuations values) i) (unwrap_or o 0))
        (no-input 0 (plan_names plan) name none)
        ∙ ((gone-execution (plan_inputs plan) (valuations values) of.execution).run.right i).constant in cc)
