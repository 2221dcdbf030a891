-- A circuit and a formula: paths to bad of the formula's safe net are tuples of executions that
-- satisfy the body, or its negation.
use Rattle.std.proofs.Common.{◌≡◌, ℕ, zero, suc, ◌+◌, ◌-◌, ◌/◌, ◌<◌, ◌↔◌, Bool, true, false, List, [], ◌∷◌, length, get_or, IsTrue, inl, inr, refl, sym, ap, ◌∙◌, subst, arith}
use Rattle.hy_formula.specs.Trees.{Tree, vars_below}
use Rattle.hy_formula.specs.Temporal.{endless, Words, SatisfiesAt, Decided, Repeats, IsDecided}
use Rattle.hy_formula.specs.Normals.{Normal, HoldsAt, Signed, normal_form}
use Rattle.hy_formula.specs.Quantifiers.{Each, IsTuple, repeated}
use Rattle.hy_formula.specs.declared.prefix.Quant.TheVariants.{Exists, Forall}
use Rattle.hy_formula.proofs.Deciding.{decided-like}
use Rattle.hy_formula.proofs.Repeating.{decided-repeating}
use Rattle.hy_formula.proofs.Tuples.{every-tuple, some-tuple}
use Rattle.ltl_closure.specs.Bodies.{body_nodes, body_root}
use Rattle.ltl_closure.specs.Closures.{closure, form_in}
use Rattle.ltl_closure.specs.Nodes.{Node, Numbers}
use Rattle.ltl_closure.proofs.Closing.{closure-numbers}
use Rattle.ltl_closure.proofs.OneBody.{body-right, root-inside}
use Rattle.aig_net.specs.declared.signals.Signal.{Signal}
use Rattle.aig_net.specs.Nets.{Net, Below, variables, literal_value, literal_at, IsNet}
use Rattle.aig_net.specs.Executions.{Word, Lasso, IsExecution, IsLassoExecution, gone, no_lasso, lasso_of, part, Recurs}
use Rattle.aig_net.specs.Signals.{visible}
use Rattle.aig_net.proofs.Literals.{value-same}
use Rattle.hy_base.proofs.Listed.{length-listed, at-listed}
use Rattle.aig_net.proofs.Rounds.{gone-recurs, recurring}
use Rattle.aig_net.proofs.Closings.{gone-execution, recurring-execution}
use Rattle.hy_base.specs.Rows.{listed}
use Rattle.self_compose.specs.Copies.{compose, copy}
use Rattle.self_compose.proofs.Tuples.{composed-net, copy-execution, copy-recurs, copy-value}
use Rattle.self_compose.proofs.Periods.{join-lasso}
use Rattle.sym_tableau.specs.Oracles.{read, signal_in, unmoved, moved}
use Rattle.sym_tableau.proofs.AttachedRange.{attached-net}
use Rattle.sym_tableau.proofs.Foretelling.{wider, new-execution, wider-recurs}
use Rattle.sym_tableau.proofs.Heeding.{old-execution, roots-hold}
use Rattle.live_safe.specs.Paths.{IsBadPath}
use Rattle.live_safe.specs.Safe.{shown_word}
use Rattle.live_safe.proofs.Saving.{lasso-path}
use Rattle.live_safe.proofs.Unfolding.{unfolding-path}
use Rattle.wit_lasso.specs.FormulaNets.{AreOwn, Tableau, copy_signals, formula_net, formula_safe, formula_tableau, tableau_net}
use Rattle.wit_lasso.specs.Satisfaction.{IsVisible, Meets, Satisfies, Trace, no_trace, trace_words}
use Rattle.wit_lasso.proofs.Bodies.{body-same, signed-same}
use Rattle.wit_lasso.proofs.CopySignals.{copies-below, signal-copied}

-- ---- what does not depend on the formula: lassos of the net with oracles, and of the copies

module _ (net : Net) (good : IsNet net) (n : ℕ) (some : 0 < n) (t : Tableau) (lasso : Lasso)
    (is : IsLassoExecution (tableau_net net n t) lasso) where
  abbrev pub old : Word
  old = unmoved (compose net n) t.nodes (gone lasso)

  pub old-is : IsExecution (compose net n) old
  old-is = old-execution (compose net n) t.nodes t.signals t.roots (gone lasso)
      (gone-execution (tableau_net net n t) lasso is)

  pub old-recurs : Recurs old (length lasso.stem) (length lasso.cycle)
  old-recurs = let r = gone-recurs lasso is.some in
      record { some = r.some; same = λ i v le. r.same i (moved (compose net n) t.nodes v) le }

  pub own-execution : (c : ℕ) → c < n → IsLassoExecution net
      (lasso_of (copy n c old) (length lasso.stem) (length lasso.cycle))
  own-execution c few =
      recurring-execution net (copy n c old) (length lasso.stem) (length lasso.cycle)
      (copy-recurs n old (length lasso.stem) (length lasso.cycle) c old-recurs)
      (copy-execution net n some old good old-is c few)

-- ---- a formula

pub at-each : {A : Type 0} (P : A → Type 0) (xs : List A) (d : A) →
    ((c : ℕ) → c < length xs → P (get_or xs c d)) → Each P xs
at-each P [] d all = tt
at-each P (x ∷ xs) d all = (all 0 (omega arith), at-each P xs d (λ c lt. all (suc c) (omega arith)))

module _ (net : Net) (signals : List Signal) where
  -- the executions of a tuple of traces
  owns : (tuple : List Trace) → Each (IsVisible net signals) tuple → ℕ → Lasso
  owns [] all c = no_lasso
  owns (x ∷ xs) (p, all) zero = p.lasso
  owns (x ∷ xs) (p, all) (suc c) = owns xs all c

  owns-are : (tuple : List Trace) (all : Each (IsVisible net signals) tuple) (c : ℕ) →
      c < length tuple → IsLassoExecution net (owns tuple all c)
  unfolding owns
  owns-are [] all c lt = absurd (omega arith)
  owns-are (x ∷ xs) (p, all) zero lt = p.execution
  owns-are (x ∷ xs) (p, all) (suc c) lt = owns-are xs all c (omega arith)

  owns-seen : (tuple : List Trace) (all : Each (IsVisible net signals) tuple) (c : ℕ) →
      c < length tuple → get_or tuple c no_trace ≡ visible signals (gone (owns tuple all c))
  unfolding owns
  owns-seen [] all c lt = absurd (omega arith)
  owns-seen (x ∷ xs) (p, all) zero lt = p.seen
  owns-seen (x ∷ xs) (p, all) (suc c) lt = owns-seen xs all c (omega arith)

module _ (net : Net) (good : IsNet net) (signals : List Signal) (are : AreOwn net signals) (n : ℕ)
    (some : 0 < n) (body : Tree) (small : IsTrue (vars_below n body)) (b : Bool) where
  abbrev all : Net
  all = compose net n

  abbrev t : Tableau
  t = formula_tableau signals n body b

  abbrev sig : ℕ → ℕ → ℕ
  sig = signal_in (copy_signals n signals)

  abbrev nodes : List Node
  nodes = body_nodes body b

  abbrev roots : List ℕ
  roots = body_root body b ∷ []

  abbrev form : ℕ → Normal
  form = form_in (closure (normal_form b body ∷ []))

  numbers : Numbers nodes form
  numbers = closure-numbers (normal_form b body ∷ [])

  all-net : IsNet all
  all-net = composed-net net n some good

  sig-below : (a v : ℕ) → Below (variables all) (sig a v)
  sig-below a v = copies-below net n some signals are a v

  -- what is read in a copy is what is seen of it
  seen-copy : (word : Word) (a c i : ℕ) → c < n →
      read sig word a c i ≡ visible signals (copy n c word) a i
  seen-copy word a c i lt =
      ap (literal_value (word i)) (signal-copied net n a c lt signals are)
      ∙ copy-value n c (word i) (signal_in signals a 0)

  repeats : (word : Word) (s c : ℕ) → Recurs word s c → Repeats (read sig word) s c
  repeats word s c r = record {
    some = r.some;
    same = λ a x i le. value-same (word (i + c)) (word i) (sig a x) (r.same i (sig a x / 2) le);
  }

  -- the root says the body, or its negation
  abbrev Says : Words → Type 0
  Says words = Signed b (SatisfiesAt endless words body 0)

  abbrev Rooted : Words → Type 0
  Rooted words = HoldsAt endless words (form (literal_at roots 0)) 0

  root-says : (words : Words) → IsDecided endless words → Rooted words → Says words
  root-says words decided h = (body-right endless words decided body b).0 h

  says-root : (words : Words) → IsDecided endless words → Says words → Rooted words
  says-root words decided h = (body-right endless words decided body b).1 h

  each-inside : (r : ℕ) → r < 1 → literal_at roots r < length nodes
  each-inside zero lt = root-inside body b
  each-inside (suc r) lt = absurd (omega arith)

  net-is : IsNet (formula_net net signals n body b)
  net-is = attached-net all nodes all-net sig roots sig-below numbers.parts

  -- ---- from a tuple to a path

  -- an execution of the copies that a tuple of traces is seen of
  pub record Joins (tuple : List Trace) : Type 0 where
    pub lasso : Lasso
    pub execution : IsLassoExecution all lasso
    pub agree : (a v i : ℕ) → v < n → trace_words tuple a v i ≡ read sig (gone lasso) a v i

  joins : (tuple : List Trace) → IsTuple (IsVisible net signals) n tuple → Joins tuple
  joins tuple is =
      let lassos : ℕ → Lasso = owns net signals tuple is.members in
      let (lasso, execution, same) = join-lasso net n lassos good some
      (λ c lt. owns-are net signals tuple is.members c (omega (arith, lt, is.count))) in
      record {
        lasso = lasso;
        execution = execution;
        agree = λ a v i lt. ap (λ (x : Trace). x a i) (owns-seen net signals tuple is.members v
            (omega (arith, lt, is.count)))
            ∙ sym (seen-copy (gone lasso) a v i lt
            ∙ value-same (copy n v (gone lasso) i) (gone (lassos v) i) (signal_in signals a 0)
            (same v i (signal_in signals a 0 / 2) lt));
      }

  decided-in : (lasso : Lasso) → IsLassoExecution all lasso →
      IsDecided endless (read sig (gone lasso))
  decided-in lasso is =
      decided-repeating (length lasso.stem) (length lasso.cycle) (read sig (gone lasso))
      (repeats (gone lasso) (length lasso.stem) (length lasso.cycle) (gone-recurs lasso is.some))

  decided-tuple : (tuple : List Trace) → IsTuple (IsVisible net signals) n tuple →
      Decided (Meets body tuple)
  decided-tuple tuple is =
      let j = joins tuple is in
      decided-like
      (body-same n some (read sig (gone j.lasso)) (trace_words tuple)
      (λ a v i lt. sym (j.agree a v i lt)) body small 0)
      (body-same n some (trace_words tuple) (read sig (gone j.lasso)) j.agree body small 0)
      (decided-in j.lasso j.execution body 0)

  pub to-path : (tuple : List Trace) → IsTuple (IsVisible net signals) n tuple →
      Signed b (Meets body tuple) →
      (k : ℕ) × (word : Word) × IsBadPath (formula_safe net signals n body b) k word
  to-path tuple is h =
      let j = joins tuple is in
      let whole : Word = gone j.lasso in
      let s : ℕ = length j.lasso.stem in
      let p : ℕ = length j.lasso.cycle in
      let recurs : Recurs whole s p = gone-recurs j.lasso j.execution.some in
      let whole-is : IsExecution all whole = gone-execution all j.lasso j.execution in
      let decided : IsDecided endless (read sig whole) = decided-in j.lasso j.execution in
      let hold : Rooted (read sig whole) = says-root (read sig whole) decided
      (signed-same b n some (trace_words tuple) (read sig whole) j.agree body small h) in
      let roots-hold' : (r : ℕ) → r < 1 →
      HoldsAt endless (read sig whole) (form (literal_at roots r)) 0 =
      λ r lt. (let P : ℕ → Type 0 = λ r. HoldsAt endless (read sig whole)
      (form (literal_at roots r)) 0 in let none : 0 ≡ r = omega arith in subst P none hold) in
      let new : Word = wider all all-net nodes form numbers sig sig-below roots whole whole-is
      decided in
      let new-is : IsExecution (formula_net net signals n body b) new =
      new-execution all all-net nodes form numbers sig sig-below roots whole whole-is decided
      each-inside roots-hold' in
      let new-recurs : Recurs new (suc s) p =
      wider-recurs all all-net nodes form numbers sig sig-below roots whole whole-is decided s p
      recurs in
      let made : IsLassoExecution (formula_net net signals n body b) (lasso_of new (suc s) p) =
      recurring-execution (formula_net net signals n body b) new (suc s) p new-recurs new-is in
      let found = lasso-path (formula_net net signals n body b) net-is
      (lasso_of new (suc s) p) made in
      (length (part new 0 (suc s)) + length (part new (suc s) p), found.0, found.1)

  -- ---- from a path to a tuple

  -- what the lassos of the copies say
  pub lasso-says : (lasso : Lasso) (is : IsLassoExecution (formula_net net signals n body b) lasso) →
      Says (λ a v i. visible signals (copy n v (old net good n some t lasso is)) a i)
  lasso-says lasso is =
      let word : Word = old net good n some t lasso is in
      let s : ℕ = length lasso.stem in
      let p : ℕ = length lasso.cycle in
      let decided : IsDecided endless (read sig word) = decided-repeating s p (read sig word)
      (repeats word s p (old-recurs net good n some t lasso is)) in
      signed-same b n some (read sig word) _ (λ a v i lt. seen-copy word a v i lt) body small
      (root-says (read sig word) decided
      (roots-hold all nodes sig roots (gone lasso)
      (gone-execution (formula_net net signals n body b) lasso is) form numbers 0 (omega arith)
      (each-inside 0 (omega arith))))

  -- the traces of the copies
  module _ (lasso : Lasso) (is : IsLassoExecution (formula_net net signals n body b) lasso) where
    abbrev word : Word
    word = old net good n some t lasso is

    abbrev own : ℕ → Lasso
    own c = lasso_of (copy n c word) (length lasso.stem) (length lasso.cycle)

    abbrev seen : ℕ → Trace
    seen c = visible signals (gone (own c))

    -- what is seen of the lasso of a copy is what is seen of its word
    pub seen-own : (a c i : ℕ) → seen c a i ≡ visible signals (copy n c word) a i
    seen-own a c i =
        value-same (gone (own c) i) (copy n c word i) (signal_in signals a 0)
        (recurring (copy n c word) (length lasso.stem) (length lasso.cycle)
        (copy-recurs n word (length lasso.stem) (length lasso.cycle) c
        (old-recurs net good n some t lasso is)) i (signal_in signals a 0 / 2))

    abbrev tuple : List Trace
    tuple = listed 0 n seen

    tuple-at : (c : ℕ) → c < n → get_or tuple c no_trace ≡ seen c
    tuple-at c lt = let plain : 0 + c ≡ c = omega arith in
        at-listed 0 n seen no_trace c lt ∙ ap seen plain

    tuple-is : IsTuple (IsVisible net signals) n tuple
    tuple-is = record {
      count = length-listed 0 n seen;
      members = at-each (IsVisible net signals) tuple no_trace
          (λ c lt.
          let many = length-listed 0 n seen in
          let few : c < n = omega (arith, many, lt) in
          let P : Trace → Type 0 = IsVisible net signals in
          subst P (sym (tuple-at c few)) (record {
            lasso = own c;
            execution = own-execution net good n some t lasso is c few;
            seen = refl;
          }));
    }

    tuple-says : Signed b (Meets body tuple)
    tuple-says =
        signed-same b n some (λ a v i. visible signals (copy n v word) a i) (trace_words tuple)
        (λ a v i lt. sym (ap (λ (x : Trace). x a i) (tuple-at v lt) ∙ seen-own a v i)) body small
        (lasso-says lasso is)

  pub from-path : (k : ℕ) (path : Word) → IsBadPath (formula_safe net signals n body b) k path →
      (tuple : List Trace) × IsTuple (IsVisible net signals) n tuple × Signed b (Meets body tuple)
  from-path k path bad =
      let (save, _, _, _, is) = unfolding-path (formula_net net signals n body b) k path bad in
      let lasso : Lasso = lasso_of (shown_word (formula_net net signals n body b) path) save
      (k - save) in
      (tuple lasso is, tuple-is lasso is, tuple-says lasso is)

-- ---- both kinds of formulas

pub universal-right : (net : Net) (signals : List Signal) (n : ℕ) (body : Tree) → IsNet net →
    AreOwn net signals → 0 < n → IsTrue (vars_below n body) →
    Satisfies net signals (repeated Forall n) body
    ↔ ((k : ℕ) (word : Word) → ¬ IsBadPath (formula_safe net signals n body false) k word)
universal-right net signals n body good are some small = (there, back)
  where
    there : Satisfies net signals (repeated Forall n) body →
        (k : ℕ) (word : Word) → ¬ IsBadPath (formula_safe net signals n body false) k word
    there holds k word bad =
        let (tuple, is, fails) = from-path net good signals are n some body small false k word bad in
        fails ((every-tuple (IsVisible net signals) (Meets body) n).0 holds tuple is)

    back : ((k : ℕ) (word : Word) → ¬ IsBadPath (formula_safe net signals n body false) k word) →
        Satisfies net signals (repeated Forall n) body
    back none = (every-tuple (IsVisible net signals) (Meets body) n).1 (λ tuple is.
        elim (decided-tuple net good signals are n some body small false tuple is) [
          | inl holds ↦ holds
          | inr fails ↦
              let (k, word, bad) = to-path net good signals are n some body small false tuple is
              fails in
              absurd (none k word bad)
        ])

pub existential-right : (net : Net) (signals : List Signal) (n : ℕ) (body : Tree) → IsNet net →
    AreOwn net signals → 0 < n → IsTrue (vars_below n body) →
    Satisfies net signals (repeated Exists n) body
    ↔ ((k : ℕ) × (word : Word) × IsBadPath (formula_safe net signals n body true) k word)
existential-right net signals n body good are some small = (
  λ holds.
      let (tuple, is, says) = (some-tuple (IsVisible net signals) (Meets body) n).0 holds in
      to-path net good signals are n some body small true tuple is says,
  λ (k, word, bad). (some-tuple (IsVisible net signals) (Meets body) n).1
      (from-path net good signals are n some body small true k word bad),
)
