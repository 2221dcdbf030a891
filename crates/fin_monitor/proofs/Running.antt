-- The machine accepts as the residuals do.
use Rattle.std.proofs.Common.{◌≡◌, ◌⊎◌, ◌↔◌, ◌+◌, ◌-◌, ◌*◌, ◌%◌, ◌^◌, ◌<◌, ◌≤◌, ℕ, zero, suc, Bool, true, false, cond, IsTrue, List, [], ◌∷◌, ◌++◌, length, map, replicate, get_or, inl, inr, refl, sym, ap, ◌∙◌, subst, arith, length-append}
use Rattle.std.proofs.Math.Nat.{mul-le-mul_left}
use Rattle.std.proofs.lemmas.Nat.{div-mul-add, mod-mul-add}
use Rattle.std.proofs.lemmas.Bool.{cases_lt}
use Rattle.std.proofs.lemmas.List.{get_or_append_left, get_or-map, length-map, get_or-append-add, length-replicate}
use Rattle.hy_base.proofs.Places.{last-of, below-row}
use Rattle.hy_formula.specs.Trees.{Tree, vars_below}
use Rattle.hy_formula.specs.Temporal.{Words}
use Rattle.hy_finite.specs.declared.lengths.Lengths.{Lengths}
use Rattle.hy_finite.specs.Traces.{Trace, judged, trace_words, Meets}
use Rattle.ltl_closure.specs.Nodes.{Node}
use Rattle.fin_monitor.specs.declared.automaton.Automaton.{Automaton}
use Rattle.hy_formula.specs.Atoms.{IndexedAtom, atoms_of}
use Rattle.fin_monitor.specs.Codes.{code_of, letter_of}
use Rattle.fin_monitor.specs.Duties.{Duty, strongly, residual_step, residual_after, residual_at, accepts, Same, IsReached, first, later}
use Rattle.ltl_closure.specs.Bodies.{body_nodes, body_root}
use Rattle.fin_monitor.specs.Limits.{HasSmallTable}
use Rattle.fin_monitor.specs.Machines.{Machine, codes, states_of, next_state, is_accepting, code_at, state_after, settled_state, IsMonitor}
use Rattle.fin_monitor.specs.Tables.{row_of, IsAutomaton, IsTableOf, IsSettling, standing, flag_at}
use Rattle.fin_monitor.proofs.CodeBits.{code-lt}
use Rattle.fin_monitor.proofs.Exploring.{same-through, same-back, row-some}
use Rattle.fin_monitor.proofs.Literals.{body-atoms}
use Rattle.fin_monitor.proofs.Residuing.{monitoring}
use Rattle.fin_monitor.proofs.Steps.{same-step, same-accepts, step-atoms, SameAtoms}

each-copy : (w n k : ℕ) → k < w → get_or (replicate w n) k 0 ≡ n
each-copy zero n k lt = absurd (omega arith)
each-copy (suc w) n zero lt = refl
each-copy (suc w) n (suc k) lt = each-copy w n k (omega arith)

module _ (nodes : List Node) (root : ℕ) (atoms : List IndexedAtom) (a : Automaton) (is : IsAutomaton nodes root atoms a) where
  pub states : length a.accepting ≡ length is.list
  states = ap length is.accepting ∙ length-map is.list accepts

  accept-at : (q : ℕ) → q < length is.list → flag_at a.accepting q ≡ accepts (residual_at is.list q)
  accept-at q lt = ap (λ l. flag_at l q) is.accepting ∙ get_or-map accepts is.list q [] false lt

  -- the table is one of its states
  pub table-of : IsTableOf a (row_of atoms)
  table-of =
      record {
        long = is.whole ∙ ap (λ n. n * row_of atoms) (sym states);
        few = omega (arith, is.explored.filled, is.explored.few);
        states = λ p lt. omega (arith, (is.explored.entries p lt).inside, states);
      }

  -- what follows residual q after the joint letter of a code
  follows : (q code : ℕ) → q < length is.list → code < row_of atoms
      → (get_or a.table (q * row_of atoms + code) 0 < length is.list) × Same (residual_step nodes (letter_of atoms code) (residual_at is.list q)) (residual_at is.list (get_or a.table (q * row_of atoms + code) 0))
  follows q code lt less =
      let w : ℕ = row_of atoms in
      let p : ℕ = q * w + code in
      let inside : p < length a.table = omega (arith, below-row w code q (length is.list) less lt, is.whole) in
      let entry = is.explored.entries p inside in
      let B : ℕ → ℕ → Type 0 = λ x y. Same (residual_step nodes (letter_of atoms x) (residual_at is.list y)) (residual_at is.list (get_or a.table p 0)) in
      (entry.inside, subst (λ x. B x q) (mod-mul-add q w code less) (subst (B (p % w)) (div-mul-add q w code less) entry.follows))

  -- all residuals that are reached are there
  pub all-reached : ((letter : ℕ → ℕ → Bool) → SameAtoms nodes letter (letter_of atoms (code_of letter atoms))) → (r : List Duty) → IsReached nodes root r → (q : ℕ) × (q < length is.list) × Same r (residual_at is.list q)
  all-reached agree r (first {nodes = ns} {root = k} same) = (0, is.explored.some, same-through r (strongly root ∷ []) (residual_at is.list 0) (same-back (strongly root ∷ []) r same) is.explored.first)
  all-reached agree s (later {nodes = ns} {root = k} letter r reach same) =
      let (q, lt, e) = all-reached agree r reach in
      let code : ℕ = code_of letter atoms in
      let (inside, f) = follows q code lt (code-lt letter atoms) in
      let A : List Duty → Type 0 = λ x. Same s x in
      let step : Same s (residual_step nodes (letter_of atoms code) (residual_at is.list q)) =
      subst A (step-atoms nodes letter (letter_of atoms code) (agree letter) (residual_at is.list q))
      (same-through s (residual_step nodes letter r) (residual_step nodes letter (residual_at is.list q)) (same-back (residual_step nodes letter r) s same) (same-step nodes letter r (residual_at is.list q) e)) in
      (get_or a.table (q * row_of atoms + code) 0, inside, same-through s _ _ step f)

  module _ (b : Automaton) (set : IsSettling a (row_of atoms) b) (m : Machine) (table : m.table ≡ b.table) (accepting : m.accepting ≡ b.accepting) (same_atoms : m.atoms ≡ atoms) where
    abbrev n : ℕ
    n = length a.accepting

    abbrev w : ℕ
    w = row_of atoms

    whole : length a.table ≡ n * w
    whole = table-of.long

    same-table : m.table ≡ map (standing set.settled n) a.table ++ replicate w n
    same-table = table ∙ set.table

    same-accepting : m.accepting ≡ a.accepting ++ true ∷ []
    same-accepting = accepting ∙ set.accepting

    pub count : states_of m ≡ n + 1
    count = ap length same-accepting ∙ length-append a.accepting (true ∷ [])

    first-rows : (p : ℕ) → p < length a.table → get_or m.table p 0 ≡ standing set.settled n (get_or a.table p 0)
    first-rows p lt =
        ap (λ l. get_or l p 0) same-table
        ∙ get_or_append_left (map (standing set.settled n) a.table) (replicate w n) 0 p (omega (arith, length-map a.table (standing set.settled n)))
        ∙ get_or-map (standing set.settled n) a.table p 0 0 lt

    last-row : (code : ℕ) → code < w → get_or m.table (n * w + code) 0 ≡ n
    last-row code lt =
        ap (λ l. get_or l (n * w + code) 0) same-table
        ∙ ap (λ k. get_or (map (standing set.settled n) a.table ++ replicate w n) (k + code) 0) (sym (length-map a.table (standing set.settled n) ∙ whole))
        ∙ get_or-append-add (map (standing set.settled n) a.table) (replicate w n) code 0
        ∙ each-copy w n code lt

    pub row-is : codes m ≡ w
    row-is = ap (λ l. 2 ^ length l) same_atoms

    pub long : length m.table ≡ states_of m * codes m
    long =
        ap length same-table ∙ length-append (map (standing set.settled n) a.table) (replicate w n)
        ∙ (λ i. (length-map a.table (standing set.settled n) ∙ whole) i + length-replicate w n i)
        ∙ (let e : n * w + w ≡ (n + 1) * w = omega arith in e)
        ∙ (λ i. (sym count) i * (sym row-is) i)

    pub small : w ≤ 65536 → length m.table ≤ 4259840
    small few = omega (arith, ap length same-table, length-append (map (standing set.settled n) a.table) (replicate w n), length-map a.table (standing set.settled n), length-replicate w n, table-of.few)

    pub inside : (p : ℕ) → p < length m.table → get_or m.table p 0 < states_of m
    inside p lt =
        elim (cases_lt p (length a.table)) [
          | inl less ↦
              let P : ℕ → Type 0 = λ x. x < states_of m in
              subst P (sym (first-rows p less)) (step (flag_at set.settled (get_or a.table p 0)) (table-of.states p less))
          | inr more ↦
              let code : ℕ = p - length a.table in
              let less : code < w = omega (arith, ap length same-table, length-append (map (standing set.settled n) a.table) (replicate w n), length-map a.table (standing set.settled n), length-replicate w n) in
              let at : n * w + code ≡ p = omega (arith, whole) in
              let P : ℕ → Type 0 = λ x. x < states_of m in
              subst P (sym (ap (λ k. get_or m.table k 0) (sym at) ∙ last-row code less)) (omega (arith, count))
        ]
      where
        step : (b : Bool) → get_or a.table p 0 < n → cond b n (get_or a.table p 0) < states_of m
        step true lt = omega (arith, count)
        step false lt = omega (arith, count)

    settled-is : settled_state m ≡ n
    settled-is = omega (arith, count)

    pub stays : (code : ℕ) → code < codes m → next_state m (settled_state m) code ≡ settled_state m
    stays code lt = (λ i. get_or m.table (settled-is i * row-is i + code) 0) ∙ last-row code (omega (arith, row-is)) ∙ sym settled-is

    pub settled-accepts : is_accepting m (settled_state m) ≡ true
    settled-accepts = (λ i. flag_at (same-accepting i) (settled-is i)) ∙ last-of a.accepting true false

    -- the state stands for residual q
    abbrev StandsFor : ℕ → ℕ → Type 0
    StandsFor f q = (f ≡ q) ⊎ ((f ≡ n) × (flag_at set.settled q ≡ true))

    module _ (agree : (letter : ℕ → ℕ → Bool) → SameAtoms nodes letter (letter_of atoms (code_of letter atoms))) (words : Words) where
      abbrev Reaches : ℕ → Type 0
      Reaches i = (q : ℕ) × (q < length is.list) × Same (residual_after nodes root words i) (residual_at is.list q) × StandsFor (state_after m words i) q

      one-step : (f q code e : ℕ) → q < n → code < w → e ≡ get_or a.table (q * w + code) 0 → StandsFor f q → StandsFor (next_state m f code) e
      one-step f q code e lt less at (inl same) =
          let at-p : next_state m f code ≡ standing set.settled n e =
          (λ i. get_or m.table (same i * row-is i + code) 0) ∙ first-rows (q * w + code) (omega (arith, below-row w code q n less lt, whole)) ∙ ap (standing set.settled n) (sym at) in
          step (flag_at set.settled e) refl at-p
        where
          step : (b : Bool) → flag_at set.settled e ≡ b → next_state m f code ≡ cond b n e → StandsFor (next_state m f code) e
          step true flag x = inr (x, flag)
          step false flag x = inl x
      one-step f q code e lt less at (inr (same, flag)) =
          inr (
            (λ i. get_or m.table (same i * row-is i + code) 0) ∙ last-row code less,
            ap (flag_at set.settled) at ∙ set.right.closed q (omega (arith, set.right.long)) flag code less,
          )

      reaches : (i : ℕ) → Reaches i
      reaches zero = (0, is.explored.some, is.explored.first, inl refl)
      reaches (suc i) =
          let (q, lt, same, stands) = reaches i in
          let letter : ℕ → ℕ → Bool = λ name variable. words name variable i in
          let code : ℕ = code_of letter atoms in
          let less = code-lt letter atoms in
          let (in', f) = follows q code lt less in
          let A : List Duty → Type 0 = λ x. Same (residual_after nodes root words (suc i)) x in
          let next : Same (residual_after nodes root words (suc i)) (residual_step nodes (letter_of atoms code) (residual_at is.list q)) =
          subst A (step-atoms nodes letter (letter_of atoms code) (agree letter) (residual_at is.list q)) (same-step nodes letter (residual_after nodes root words i) (residual_at is.list q) same) in
          let B : ℕ → Type 0 = λ c. StandsFor (next_state m (state_after m words i) c) (get_or a.table (q * w + code) 0) in
          let code-is : code ≡ code_at m words i = ap (code_of letter) (sym same_atoms) in
          (get_or a.table (q * w + code) 0, in', same-through _ _ _ next f, subst B code-is (one-step (state_after m words i) q code (get_or a.table (q * w + code) 0) (omega (arith, states)) less refl stands))

      pub right : (i : ℕ) → is_accepting m (state_after m words i) ≡ accepts (residual_after nodes root words i)
      right i =
          let (q, lt, same, stands) = reaches i in
          let here = accept-at q lt in
          cases q stands lt (here ∙ sym (same-accepts (residual_after nodes root words i) (residual_at is.list q) same))
        where
          cases : (q : ℕ) → StandsFor (state_after m words i) q → q < length is.list → flag_at a.accepting q ≡ accepts (residual_after nodes root words i) → is_accepting m (state_after m words i) ≡ accepts (residual_after nodes root words i)
          cases q (inl same) lt e = (λ k. flag_at (same-accepting k) (same k)) ∙ get_or_append_left a.accepting (true ∷ []) false q (omega (arith, states)) ∙ e
          cases q (inr (same, flag)) lt e = (λ k. flag_at (same-accepting k) (same k)) ∙ last-of a.accepting true false ∙ sym (set.right.accept q flag) ∙ e

-- The machine of a body's automaton is its monitor.
pub is-monitor : (body : Tree) (variables : ℕ) (a b : Automaton) → IsTrue (vars_below variables body) → variables ≤ 4 → length (atoms_of body) ≤ 16 → row_of (atoms_of body) ≤ 65536
    → IsAutomaton (body_nodes body true) (body_root body true) (atoms_of body) a → IsSettling a (row_of (atoms_of body)) b
    → (m : Machine) → m ≡ record { body = body; variables = variables; atoms = atoms_of body; table = b.table; accepting = b.accepting } → IsMonitor m
is-monitor body variables a b bound few few_atoms row is set m e =
    let P : Machine → Type 0 = IsMonitor in
    subst P (sym e)
    (let made : Machine = record { body = body; variables = variables; atoms = atoms_of body; table = b.table; accepting = b.accepting } in
    let nodes = body_nodes body true in
    let root = body_root body true in
    let atoms = atoms_of body in
    record {
      bound = bound;
      few = few;
      atoms = refl;
      few_atoms = few_atoms;
      some = omega (arith, count nodes root atoms a is b set made refl refl refl);
      long = long nodes root atoms a is b set made refl refl refl;
      small = small nodes root atoms a is b set made refl refl refl row;
      inside = inside nodes root atoms a is b set made refl refl refl;
      stays = stays nodes root atoms a is b set made refl refl refl;
      settled = settled-accepts nodes root atoms a is b set made refl refl refl;
      right = λ words i some. right nodes root atoms a is b set made refl refl refl (body-atoms body) words i;
    })

-- No table of the body is too large.
pub small-table : (body : Tree) (a : Automaton) → IsAutomaton (body_nodes body true) (body_root body true) (atoms_of body) a → HasSmallTable body
small-table body a is =
    record {
      list = is.list;
      reached = record { some = is.explored.reached; all = all-reached (body_nodes body true) (body_root body true) (atoms_of body) a is (body-atoms body) };
      few = is.explored.few;
    }

-- ---- a monitor

pub place-inside : (m : Machine) → IsMonitor m → (q code : ℕ) → q < states_of m → code < codes m → q * codes m + code < length m.table
place-inside m is q code lt less = omega (arith, below-row (codes m) code q (states_of m) less lt, is.long)

pub few-states : (m : Machine) → IsMonitor m → states_of m ≤ 4259840
few-states m is = let some : 1 ≤ codes m = row-some m.atoms in let h : states_of m * 1 ≤ states_of m * codes m = mul-le-mul_left (states_of m) some in omega (arith, h, is.long, is.small)

pub accepts-meets : (m : Machine) → IsMonitor m → (rule : Lengths) (tuple : List Trace) → 0 < judged rule tuple → (q : ℕ) (b : Bool) → b ≡ is_accepting m q → q ≡ state_after m (trace_words tuple) (judged rule tuple)
    → IsTrue b ↔ Meets rule m.body tuple
accepts-meets m is rule tuple some q b accept at =
    let words = trace_words tuple in
    let n = judged rule tuple in
    let e : b ≡ accepts (residual_after (body_nodes m.body true) (body_root m.body true) words n) = accept ∙ ap (is_accepting m) at ∙ is.right words n some in
    let r = monitoring n words m.body some in
    (λ h. r.0 (sym e ∙ h), λ h. e ∙ r.1 h)
