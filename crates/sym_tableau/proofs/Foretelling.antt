-- An execution on which the roots hold is one of the net with oracles.
use Rattle.std.proofs.Common.{◌≡◌, ℕ, zero, suc, ◌+◌, ◌-◌, ◌/◌, ◌<◌, ◌≤◌, ◌↔◌, Bool, true, false, not, cond, nat_lt, List, [], ◌∷◌, ◌++◌, map, length, get_or, IsTrue, inl, inr, refl, sym, ap, ◌∙◌, subst, arith, length-append}
use Rattle.std.proofs.lemmas.Bool.{cases_eq, cases_lt}
use Rattle.std.proofs.lemmas.List.{get_or_append_left, get_or_at}
use Rattle.std.proofs.Math.Path.{fun_ext}
use Rattle.hy_base.proofs.Truths.{cond-below, cond-above}
use Rattle.hy_formula.specs.Temporal.{endless, Words, IsDecided, Repeats}
use Rattle.hy_formula.specs.Normals.{Normal, HoldsAt}
use Rattle.ltl_closure.specs.Nodes as node
use Rattle.ltl_closure.specs.Nodes.{Node, always, never, and, or, next, weak_next, until, release, node_at, form_of, PartsBelow, Numbers}
use Rattle.aig_net.specs.declared.parts.Reset.{Reset}
use Rattle.aig_net.specs.Nets.{Net, Valuation, ResetTo, literal_value, literal_at, reset_at, latch_variable, first_and, variables, Below, IsRight, IsStart, IsStep, AllTrue, IsNet}
use Rattle.aig_net.specs.Executions.{Word, IsFair, IsExecution, Recurs}
use Rattle.aig_net.specs.Wires.{Wire, literal, opposed, either, wire_value, wire_at, made_each}
use Rattle.sym_tableau.specs.Oracles.{read, is_temporal, foretold, oracles_below, oracles, moved, moved_literal, moved_and, oracle, owed, attached_first, member_wire, members, gathered, optional, promise, beginning, end_of, promises, ends, kept_wires, fair_wires, attach, unmoved}
use Rattle.aig_net.proofs.Literals.{value-same, value-even}
use Rattle.aig_net.proofs.Valuations.{filled, valuation-right, valuation-given, valuation-only}
use Rattle.aig_net.proofs.Wiring.{all-length, lit-from}
use Rattle.hy_base.proofs.Listed.{each-append, each-map}
use Rattle.aig_net.proofs.Disjunctions.{true-or-left, true-or-right, kept-or}
use Rattle.sym_tableau.proofs.Gathering.{gathered-all}
use Rattle.sym_tableau.proofs.Parts.{oracle-below, moved-value, moved-early, moved-late, latch-moved, many-latches, member-value, promise-value, end-value, old-right, facts-latch, reset-oracle, reset-started, reset-old}
use Rattle.sym_tableau.proofs.Heeding.{to-local}
use Rattle.sym_tableau.proofs.AttachedRange.{attached-net}
use Rattle.sym_tableau.proofs.Truths.{from-local, holds-local, local-holds, truth, truth-right, truth-steady}

-- ---- what the oracles say

module _ (nodes : List Node) (truth : ℕ → ℕ → Bool) where
  -- the values of the oracles of the members below n
  abbrev bits : ℕ → ℕ → List Bool
  bits i zero = []
  bits i (suc k) = cond (is_temporal (node_at nodes k)) (bits i k ++ truth
      (foretold k (node_at nodes k)) (suc i) ∷ []) (bits i k)

  many-bits : (i n : ℕ) → length (bits i n) ≡ oracles_below nodes n
  many-bits i zero = refl
  many-bits i (suc k) = at (is_temporal (node_at nodes k)) (many-bits i k)
    where
      at : (b : Bool) → length (bits i k) ≡ oracles_below nodes k → length
          (cond b (bits i k ++ truth (foretold k (node_at nodes k)) (suc i) ∷ [])
          (bits i k)) ≡ cond b (suc (oracles_below nodes k)) (oracles_below nodes k)
      at true e = let l = length-append (bits i k) (truth (foretold k (node_at nodes k))
          (suc i) ∷ []) in omega (arith, l, e)
      at false e = e

  bit-at : (i n k : ℕ) → k < n → is_temporal (node_at nodes k) ≡ true → get_or (bits i n)
      (oracles_below nodes k) false ≡ truth (foretold k (node_at nodes k)) (suc i)
  bit-at i zero k lt is = absurd (omega arith)
  bit-at i (suc n) k lt is =
      elim (cases_eq k n) [
        | inl e ↦
            let P : ℕ → Type 0 = λ k. is_temporal (node_at nodes k) ≡ true → get_or
            (bits i (suc n)) (oracles_below nodes k) false ≡ truth
            (foretold k (node_at nodes k)) (suc i) in
            subst P (sym e) (last (is_temporal (node_at nodes n))) is
        | inr apart ↦ early (is_temporal (node_at nodes n)) (oracle-below nodes n k (omega arith)
            is) (bit-at i n k (omega arith) is)
      ]
    where
      last : (b : Bool) → b ≡ true → get_or
          (cond b (bits i n ++ truth (foretold n (node_at nodes n)) (suc i) ∷ []) (bits i n))
          (oracles_below nodes n) false ≡ truth (foretold n (node_at nodes n)) (suc i)
      last true e = get_or_at (bits i n) (truth (foretold n (node_at nodes n)) (suc i)) [] false
          (oracles_below nodes n) (many-bits i n)
      last false e = absurd (cc)

      early : (b : Bool) → oracles_below nodes k < oracles_below nodes n → get_or (bits i n)
          (oracles_below nodes k) false ≡ truth (foretold k (node_at nodes k)) (suc i) → get_or
          (cond b (bits i n ++ truth (foretold n (node_at nodes n)) (suc i) ∷ []) (bits i n))
          (oracles_below nodes k) false ≡ truth (foretold k (node_at nodes k)) (suc i)
      early true lt e = let m = many-bits i n in get_or_append_left (bits i n)
          (truth (foretold n (node_at nodes n)) (suc i) ∷ []) false (oracles_below nodes k)
          (omega (arith, m, lt)) ∙ e
      early false lt e = e

  bits-same : (i j : ℕ) → ((k : ℕ) → truth k (suc i) ≡ truth k (suc j)) → (n : ℕ) → bits i n ≡ bits
      j n
  bits-same i j same zero = refl
  bits-same i j same (suc k) =
      ap (λ b. cond (is_temporal (node_at nodes k)) (bits i k ++ b ∷ []) (bits i k))
      (same (foretold k (node_at nodes k))) ∙ ap (λ l. cond (is_temporal (node_at nodes k))
      (l ++ truth (foretold k (node_at nodes k)) (suc j) ∷ []) l) (bits-same i j same k)

  -- what the latches of the oracles have
  abbrev bits-before : ℕ → ℕ → Bool
  bits-before zero o = false
  bits-before (suc i) o = get_or (bits i (length nodes)) o false

  abbrev is-later : ℕ → Bool
  is-later zero = false
  is-later (suc i) = true

  -- the inputs and latches of the new net
  abbrev assembled : Net → Valuation → List Bool → (ℕ → Bool) → Bool → Valuation
  assembled net old now before later u =
      cond (nat_lt net.inputs u)
      (cond (nat_lt (net.inputs + oracles nodes) u)
      (cond (nat_lt (net.inputs + oracles nodes + oracles nodes) u)
      (cond (nat_lt (suc (net.inputs + oracles nodes + oracles nodes)) u)
      (old (u - (oracles nodes + suc (oracles nodes)))) later)
      (before (u - suc (net.inputs + oracles nodes))))
      (get_or now (u - suc net.inputs) false))
      (old u)

  abbrev given : Net → Word → Word
  given net word i = assembled net (word i) (bits i (length nodes)) (bits-before i) (is-later i)

  module _ (net : Net) (word : Word) (i j : ℕ) where
    given-same : word i ≡ word j → ((k : ℕ) → truth k (suc i) ≡ truth k (suc j)) →
        ((o : ℕ) → bits-before i o ≡ bits-before j o) → is-later i ≡ is-later j → given net word
        i ≡ given net word j
    given-same same now before later =
        ap (λ x. assembled net x (bits i (length nodes)) (bits-before i) (is-later i)) same ∙ ap
        (λ x. assembled net (word j) x (bits-before i) (is-later i)) (bits-same i j now
        (length nodes)) ∙ ap (λ x. assembled net (word j) (bits j (length nodes)) x
        (is-later i)) (fun_ext before) ∙ ap (assembled net (word j) (bits j (length nodes))
        (bits-before j)) later

  module _ (net : Net) (word : Word) (i : ℕ) where
    given-early : (u : ℕ) → u ≤ net.inputs → given net word i u ≡ word i u
    given-early u le = cond-above net.inputs u _ _ le

    given-oracle : (o : ℕ) → o < oracles nodes → given net word i (suc (net.inputs + o)) ≡ get_or
        (bits i (length nodes)) o false
    given-oracle o lt =
        let at : suc (net.inputs + o) - suc net.inputs ≡ o = omega arith in
        cond-below net.inputs (suc (net.inputs + o)) _ _ (omega arith) ∙ cond-above (net.inputs + oracles
        nodes) (suc (net.inputs + o)) _ _ (omega arith) ∙ ap
        (λ x. get_or (bits i (length nodes)) x false) at

    given-owed : (o : ℕ) → o < oracles nodes → given net word i
        (suc (net.inputs + oracles nodes + o)) ≡ bits-before i o
    given-owed o lt =
        let u : ℕ = suc (net.inputs + oracles nodes + o) in
        let at : u - suc (net.inputs + oracles nodes) ≡ o = omega arith in
        cond-below net.inputs u _ _ (omega arith) ∙ cond-below (net.inputs + oracles nodes) u _ _
        (omega arith) ∙ cond-above (net.inputs + oracles nodes + oracles nodes) u _ _
        (omega arith) ∙ ap (bits-before i) at

    given-started : given net word i (suc (net.inputs + oracles nodes + oracles nodes)) ≡ is-later i
    given-started =
        let u : ℕ = suc (net.inputs + oracles nodes + oracles nodes) in
        cond-below net.inputs u _ _ (omega arith) ∙ cond-below (net.inputs + oracles nodes) u _ _
        (omega arith) ∙ cond-below (net.inputs + oracles nodes + oracles nodes) u _ _
        (omega arith) ∙ cond-above (suc (net.inputs + oracles nodes + oracles nodes)) u _ _
        (omega arith)

    given-late : (u : ℕ) → net.inputs < u → given net word i
        (u + (oracles nodes + suc (oracles nodes))) ≡ word i u
    given-late u lt =
        let m : ℕ = u + (oracles nodes + suc (oracles nodes)) in
        let at : m - (oracles nodes + suc (oracles nodes)) ≡ u = omega arith in
        cond-below net.inputs m _ _ (omega arith) ∙ cond-below (net.inputs + oracles nodes) m _ _
        (omega arith) ∙ cond-below (net.inputs + oracles nodes + oracles nodes) m _ _
        (omega arith) ∙ cond-below (suc (net.inputs + oracles nodes + oracles nodes)) m _ _
        (omega arith) ∙ ap (word i) at

    given-old : (u : ℕ) → given net word i (moved net nodes u) ≡ word i u
    given-old u =
        elim (cases_lt net.inputs u) [
          | inl lt ↦ ap (given net word i) (moved-late net nodes u lt) ∙ given-late u lt
          | inr le ↦ ap (given net word i) (moved-early net nodes u le) ∙ given-early u le
        ]

module _ (net : Net) (good : IsNet net) (nodes : List Node) (form : ℕ → Normal) (numbers : Numbers
    nodes form) (signals : ℕ → ℕ → ℕ) (reads : (n x : ℕ) → Below (variables net) (signals n x))
    (roots : List ℕ) (word : Word) (is : IsExecution net word) (decided : IsDecided endless
    (read signals word)) where
  abbrev words : Words
  words = read signals word

  abbrev new : Net
  new = attach net nodes signals roots

  abbrev known : ℕ → ℕ → Bool
  known = truth form words decided

  abbrev input : Word
  input = given nodes known net word

  pub wider : Word
  wider i = filled (first_and new) new.ands (input i)

  new-net : IsNet new
  new-net = attached-net net nodes good signals roots reads numbers.parts

  wider-right : (i : ℕ) → IsRight new (wider i)
  unfolding wider
  wider-right i = valuation-right new (input i) new-net.ordered (given-early nodes known net word i
      0 (omega arith) ∙ (is.run.right i).constant)

  wider-given : (i u : ℕ) → u < first_and new → wider i u ≡ input i u
  unfolding wider
  wider-given i u lt = valuation-given new (input i) u lt

  -- the old variables
  pub wider-old : (i u : ℕ) → u < variables net → unmoved net nodes wider i u ≡ word i u
  wider-old i u lt =
      let ls = many-latches net nodes in
      let far : (u : ℕ) → u < first_and net → moved net nodes u < first_and new =
      λ u lt. elim (cases_lt net.inputs u) [
        | inl late ↦ omega (
          arith,
          moved-late net nodes u late,
          ls,
          lt,
        )
        | inr early ↦ omega (arith, moved-early net nodes u early)
      ] in
      valuation-only net (unmoved net nodes wider i) (word i) good.ordered (old-right net nodes
      signals roots (wider i) (wider-right i)) (is.run.right i)
      (λ u few. wider-given i (moved net nodes u) (far u few) ∙ given-old nodes known net word i u)
      u lt

  old-value : (i l : ℕ) → Below (variables net) l → literal_value (wider i) (moved_literal net
      nodes l) ≡ literal_value (word i) l
  old-value i l below = moved-value net nodes (wider i) l ∙ value-same (unmoved net nodes wider i)
      (word i) l (wider-old i (l / 2) below)

  -- the new ones
  oracle-value : (i k : ℕ) → k < length nodes → is_temporal (node_at nodes k) ≡ true →
      literal_value (wider i) (oracle net nodes k) ≡ known (foretold k (node_at nodes k)) (suc i)
  oracle-value i k lt is_t =
      let ls = many-latches net nodes in
      let small = oracle-below nodes (length nodes) k lt is_t in
      value-even (wider i) (suc (net.inputs + oracles_below nodes k)) ∙ wider-given i
      (suc (net.inputs + oracles_below nodes k)) (omega (arith, small, ls)) ∙ given-oracle
      nodes known net word i (oracles_below nodes k) small ∙ bit-at nodes known i
      (length nodes) k lt is_t

  owed-value : (i o : ℕ) → o < oracles nodes → wider i (latch_variable new o) ≡ bits-before nodes
      known i o
  owed-value i o lt =
      let ls = many-latches net nodes in
      wider-given i (latch_variable new o) (omega (arith, lt, ls)) ∙ given-owed nodes known net
      word i o lt

  started-value : (i : ℕ) → wider i (latch_variable new (oracles nodes)) ≡ is-later nodes known i
  started-value i =
      let ls = many-latches net nodes in
      wider-given i (latch_variable new (oracles nodes)) (omega (arith, ls)) ∙ given-started nodes
      known net word i

  abbrev lit : ℕ → ℕ
  lit = literal_at (members net nodes signals).literals

  abbrev Holds : ℕ → ℕ → Type 0
  Holds i k = HoldsAt endless words (form k) i

  abbrev wire : (ℕ → ℕ) → ℕ → Wire
  wire before k = member_wire (λ n x. moved_literal net nodes (signals n x)) before
      (oracle net nodes k) (node_at nodes k)

  abbrev lit-at : ℕ → ℕ → ℕ
  lit-at n = literal_at (made_each (attached_first net nodes) (map (moved_and net nodes) net.ands)
      wire n).literals

  lit-early : (k g : ℕ) → k < length nodes → g < k → lit g ≡ lit-at k g
  lit-early k g lt below = lit-from (attached_first net nodes) (map (moved_and net nodes) net.ands)
      wire (length nodes) k g (omega arith) below

  known-right : (k i : ℕ) → (known k i ≡ true) ↔ Holds i k
  known-right k i = truth-right form words decided k i

  signal-value : (i n x : ℕ) → words n x i ≡ literal_value (wider i) (moved_literal net nodes
      (signals n x))
  signal-value i n x = sym (old-value i (signals n x) (reads n x))

  -- each member has its truth
  module _ (k i : ℕ) (lt : k < length nodes) (lower : (g : ℕ) → g < k → (literal_value (wider i)
      (lit g) ≡ true) ↔ Holds i g) where
    lit-to : literal_value (wider i) (lit k) ≡ true → Holds i k
    lit-to e =
        local-holds form words decided k i (node_at nodes k) (numbers.forms k lt)
        (to-local (wider i) (wider-right i).constant (λ n x. moved_literal net nodes (signals n x))
        (lit-at k) (oracle net nodes k) k (Holds i) (Holds (suc i)) (λ n x. words n x i)
        (signal-value i)
        (λ g below h. (lower g below).0 (ap (literal_value (wider i)) (lit-early k g lt below) ∙ h))
        (node_at nodes k) (numbers.parts k lt)
        (λ is_t h. (known-right (foretold k (node_at nodes k)) (suc i)).0
        (sym (oracle-value i k lt is_t) ∙ h))
        (sym (member-value net nodes signals roots (wider i) (wider-right i) k lt) ∙ e))

    lit-of : Holds i k → literal_value (wider i) (lit k) ≡ true
    lit-of h =
        member-value net nodes signals roots (wider i) (wider-right i) k lt ∙ from-local (wider i)
        (wider-right i).constant (λ n x. moved_literal net nodes (signals n x)) (lit-at k)
        (oracle net nodes k) k (Holds i) (Holds (suc i)) (λ n x. words n x i) (signal-value i)
        (λ g below t. ap (literal_value (wider i)) (sym (lit-early k g lt below))
        ∙ (lower g below).1 t)
        (node_at nodes k) (numbers.parts k lt)
        (λ is_t t. oracle-value i k lt is_t ∙ (known-right (foretold k (node_at nodes k))
        (suc i)).1 t)
        (holds-local form words decided k i (node_at nodes k) (numbers.forms k lt) h)

  lit-right : (n k i : ℕ) → k < n → k < length nodes → (literal_value (wider i) (lit k) ≡ true)
      ↔ Holds i k
  lit-right zero k i few lt = absurd (omega arith)
  lit-right (suc n) k i few lt =
      let lower : (g : ℕ) → g < k → (literal_value (wider i) (lit g) ≡ true) ↔ Holds i g =
      λ g below. lit-right n g i (omega arith) (omega arith) in
      (lit-to k i lt lower, lit-of k i lt lower)

  member-right : (k i : ℕ) → k < length nodes → (literal_value (wider i) (lit k) ≡ true) ↔ Holds i k
  member-right k i lt = lit-right (suc k) k i (omega arith) lt

  -- ---- the execution

  old-latch : (i j : ℕ) → j < length net.latches → wider i (latch_variable new (oracles nodes + suc
      j)) ≡ word i (latch_variable net j)
  old-latch i j lt = ap (wider i) (latch-moved net nodes j) ∙ wider-old i (latch_variable net j)
      (omega arith)

  new-start : IsStart new (wider 0)
  new-start =
      facts-latch net nodes (λ j _. ResetTo (reset_at new.resets j)
      (wider 0 (latch_variable new j))) (record {
        on_oracle = λ o lt.
            let P : Reset → Type 0 = λ r. ResetTo r (wider 0 (latch_variable new o)) in
            subst P (sym (reset-oracle net nodes o lt)) (owed-value 0 o lt);
        on_started =
            let P : Reset → Type 0 = λ r. ResetTo r (wider 0 (latch_variable new
            (oracles nodes))) in
            subst P (sym (reset-started net nodes)) (started-value 0);
        on_old = λ j lt.
            let P : Reset → Type 0 = λ r. ResetTo r (wider 0 (latch_variable new
            (oracles nodes + suc j))) in
            let Q : Bool → Type 0 = ResetTo (reset_at net.resets j) in
            subst P (sym (reset-old net nodes j)) (subst Q (sym (old-latch 0 j lt))
            (is.run.starts j lt));
      })

  new-step : (i : ℕ) → IsStep new (wider i) (wider (suc i))
  new-step i =
      let ls = many-latches net nodes in
      facts-latch net nodes (λ j l. wider (suc i) (latch_variable new j) ≡ literal_value
      (wider i) l) (record {
        on_oracle = λ o lt. owed-value (suc i) o lt ∙ sym (value-even (wider i)
            (suc (net.inputs + o))
            ∙ wider-given i (suc (net.inputs + o)) (omega (arith, lt, ls))
            ∙ given-oracle nodes known net word i o lt);
        on_started = started-value (suc i) ∙ sym (ap not (wider-right i).constant);
        on_old = λ j lt. old-latch (suc i) j lt ∙ is.run.goes i j lt
            ∙ sym (old-value i (literal_at net.latches j) (good.latches j lt));
      })

  foretold-below : (k : ℕ) (member : Node) → k < length nodes → PartsBelow k member → foretold k
      member < length nodes
  foretold-below k always lt below = lt
  foretold-below k never lt below = lt
  foretold-below k (node.literal b n x) lt below = lt
  foretold-below k (and g h) lt below = lt
  foretold-below k (or g h) lt below = lt
  foretold-below k (next g) lt below = omega arith
  foretold-below k (weak_next g) lt below = omega arith
  foretold-below k (until g h) lt below = lt
  foretold-below k (release g h) lt below = lt

  promise-kept : (i k : ℕ) → k < length nodes → is_temporal (node_at nodes k) ≡ true →
      literal_value (wider i) (owed net nodes k) ≡ true → literal_value (wider i)
      (lit (foretold k (node_at nodes k))) ≡ true
  promise-kept i k lt is_t e = at i (sym (owed-value i (oracles_below nodes k) small) ∙ sym
      (value-even (wider i) (suc (net.inputs + oracles nodes + oracles_below nodes k))) ∙ e)
    where
      small : oracles_below nodes k < oracles nodes
      small = oracle-below nodes (length nodes) k lt is_t

      at : (i : ℕ) → bits-before nodes known i (oracles_below nodes k) ≡ true → literal_value
          (wider i) (lit (foretold k (node_at nodes k))) ≡ true
      at zero e = absurd (cc)
      at (suc i) e =
          (member-right (foretold k (node_at nodes k)) (suc i) (foretold-below k (node_at nodes k)
          lt (numbers.parts k lt))).1
          ((known-right (foretold k (node_at nodes k)) (suc i)).0
          (sym (bit-at nodes known i (length nodes) k lt is_t) ∙ e))

  each-optional : (P : Wire → Type 0) (b : Bool) (w : Wire) → (b ≡ true → P w) → (q : ℕ) →
      q < length (optional b w) → P (wire_at (optional b w) q)
  each-optional P true w p zero lt = p refl
  each-optional P true w p (suc q) lt = absurd (omega arith)
  each-optional P false w p q lt = absurd (omega arith)

  module _ (inside : (r : ℕ) → r < length roots → literal_at roots r < length nodes)
      (hold : (r : ℕ) → r < length roots → Holds 0 (literal_at roots r)) where
    begins : (i r : ℕ) → r < length roots → IsTrue (wire_value (wider i) (beginning net nodes lit
        (literal_at roots r)))
    begins zero r lt = true-or-right _ _ ((member-right (literal_at roots r) 0 (inside r lt)).1
        (hold r lt))
    begins (suc i) r lt = true-or-left _ _ (value-even (wider (suc i))
        (suc (net.inputs + oracles nodes + oracles nodes)) ∙ started-value (suc i))

    wires-kept : (i q : ℕ) → q < length (promises net nodes lit roots) → IsTrue
        (wire_value (wider i) (wire_at (promises net nodes lit roots) q))
    wires-kept i =
        let P : Wire → Type 0 = λ w. IsTrue (wire_value (wider i) w) in
        each-append (literal 0) (gathered (promise net nodes lit) (length nodes))
        (map (beginning net nodes lit) roots) (λ _ w. P w)
        (gathered-all (promise net nodes lit) P (length nodes)
        (λ k q lt small. each-optional P (is_temporal (node_at nodes k))
        (either (opposed (literal (owed net nodes k)))
        (literal (lit (foretold k (node_at nodes k))))) (λ is_t. kept-or _ _
        (promise-kept i k lt is_t)) q small))
        (each-map (beginning net nodes lit) 0 (literal 0) roots (λ _ w. P w) (λ r lt. begins i r
        lt))

    new-kept : (i : ℕ) → AllTrue new.constraints (wider i)
    new-kept i =
        let P : ℕ → ℕ → Type 0 = λ _ l. IsTrue (literal_value (wider i) l) in
        let many = all-length (attached_first net nodes) (members net nodes signals).ands
        (promises net nodes lit roots) in
        each-append 0 (map (moved_literal net nodes) net.constraints) (kept_wires net nodes signals
        roots).literals P
        (each-map (moved_literal net nodes) 0 0 net.constraints P (λ j lt. old-value i
        (literal_at net.constraints j) (good.constraints j lt) ∙ is.run.kept i j lt))
        (λ q lt. promise-value net nodes signals roots (wider i) (wider-right i) q
        (omega (arith, many, lt)) ∙ wires-kept i q (omega (arith, many, lt)))

    -- an end comes, or the until does not hold
    abbrev Comes : Wire → Type 0
    Comes w = (i : ℕ) → (j : ℕ) × (i ≤ j) × IsTrue (wire_value (wider j) w)

    end-comes : (k : ℕ) → k < length nodes → (member : Node) → node_at nodes k ≡ member →
        PartsBelow k member → (q : ℕ) → q < length (end_of lit k member) → Comes
        (wire_at (end_of lit k member) q)
    end-comes k lt (until g h) e (p, below) zero few i = at (literal_value (wider i) (lit k)) refl
      where
        at : (b : Bool) → literal_value (wider i) (lit k) ≡ b → (j : ℕ) × (i ≤ j) × IsTrue
            (wire_value (wider j) (either (opposed (literal (lit k))) (literal (lit h))))
        at false off = (i, omega arith, kept-or _ _ (λ h. absurd (cc)))
        at true here' =
            let P : Node → Type 0 = λ member. form k ≡ form_of form member in
            let same : form k ≡ form_of form (until g h) = subst P e (numbers.forms k lt) in
            let Q : Normal → Type 0 = λ f. HoldsAt endless words f i in
            let (j, from, _, here, _) = subst Q same ((member-right k i lt).0 here') in
            (j, from, kept-or _ _ (λ _. (member-right h j (omega arith)).1 here))
    end-comes k lt (until g h) e below (suc q) few i = absurd (omega arith)
    end-comes k lt always e below q few i = absurd (omega arith)
    end-comes k lt never e below q few i = absurd (omega arith)
    end-comes k lt (node.literal b n x) e below q few i = absurd (omega arith)
    end-comes k lt (and g h) e below q few i = absurd (omega arith)
    end-comes k lt (or g h) e below q few i = absurd (omega arith)
    end-comes k lt (next g) e below q few i = absurd (omega arith)
    end-comes k lt (weak_next g) e below q few i = absurd (omega arith)
    end-comes k lt (release g h) e below q few i = absurd (omega arith)

    ends-come : (q : ℕ) → q < length (ends nodes lit) → Comes (wire_at (ends nodes lit) q)
    ends-come = gathered-all (λ k. end_of lit k (node_at nodes k)) Comes (length nodes)
        (λ k q lt small. end-comes k lt (node_at nodes k) refl (numbers.parts k lt) q small)

    new-fair : IsFair new wider
    new-fair =
        let many = all-length (attached_first net nodes) (kept_wires net nodes signals roots).ands
        (ends nodes lit) in
        let P : ℕ → ℕ → Type 0 = λ _ l. (i : ℕ) → (k : ℕ) × (i ≤ k) × IsTrue
        (literal_value (wider k) l) in
        each-append 0 (map (moved_literal net nodes) net.fairs) (fair_wires net nodes signals
        roots).literals P
        (each-map (moved_literal net nodes) 0 0 net.fairs P
        (λ j lt i. let (k, from, here) = is.fair j lt i in (
          k,
          from,
          old-value k
              (literal_at net.fairs j) (good.fairs j lt) ∙ here,
        )))
        (λ q lt i.
        let (k, from, here) = ends-come q (omega (arith, many, lt)) i in (
          k,
          from,
          end-value net nodes signals roots (wider k) (wider-right k) q
              (omega (arith, many, lt)) ∙ here,
        ))

    pub new-execution : IsExecution new wider
    new-execution = record {
      run = record {
        starts = new-start;
        right = wider-right;
        goes =
            new-step;
        kept = new-kept;
      };
      fair = new-fair;
    }

  -- ---- where the word repeats

  words-repeat : (s c : ℕ) → Recurs word s c → Repeats words s c
  words-repeat s c r = record {
    some = r.some;
    same = λ n x i le. value-same (word (i + c))
        (word i) (signals n x) (r.same i (signals n x / 2) le);
  }

  known-same : (s c : ℕ) → Recurs word s c → (i : ℕ) → s ≤ i → (k : ℕ) → known k (i + c) ≡ known k i
  known-same s c r i le k = truth-steady form words decided s c (words-repeat s c r) k i le

  filled-same : (i j v : ℕ) → input i ≡ input j → wider i v ≡ wider j v
  unfolding wider
  filled-same i j v e = ap (λ x. filled (first_and new) new.ands x v) e

  pub wider-recurs : (s c : ℕ) → Recurs word s c → Recurs wider (suc s) c
  wider-recurs s c r = record { some = r.some; same = same }
    where
      input-same : (i : ℕ) → suc s ≤ i → input (i + c) ≡ input i
      input-same zero le = absurd (omega arith)
      input-same (suc i) le =
          let up : suc i + c ≡ suc (i + c) = omega arith in
          let now : (k : ℕ) → known k (suc (suc (i + c))) ≡ known k (suc (suc i)) = λ k. let e :
          suc (suc (i + c)) ≡ suc (suc i) + c = omega arith in ap (known k) e ∙ known-same s c
          r (suc (suc i)) (omega arith) k in
          let last : (k : ℕ) → known k (suc (i + c)) ≡ known k (suc i) = λ k. let e : suc
          (i + c) ≡ suc i + c = omega arith in ap (known k) e ∙ known-same s c r (suc i)
          (omega arith) k in
          let word-same : word (suc (i + c)) ≡ word (suc i) = fun_ext (λ v. ap (λ x. word x v)
          (sym up) ∙ r.same (suc i) v (omega arith)) in
          ap input up ∙ given-same nodes known net word (suc (i + c)) (suc i) word-same now
          (λ o. ap (λ l. get_or l o false) (bits-same nodes known (i + c) i last
          (length nodes))) refl

      same : (i v : ℕ) → suc s ≤ i → wider (i + c) v ≡ wider i v
      same i v le = filled-same (i + c) i v (input-same i le)

  pub oracle-right : (k i : ℕ) → k < length nodes → is_temporal (node_at nodes k) ≡ true → IsTrue
      (literal_value (wider i) (oracle net nodes k)) ↔ HoldsAt endless (read signals word)
      (form (foretold k (node_at nodes k))) (suc i)
  oracle-right k i lt is_t =
      let k-right = known-right (foretold k (node_at nodes k)) (suc i) in
      let e = oracle-value i k lt is_t in
      (λ h. k-right.0 (sym e ∙ h), λ h. e ∙ k-right.1 h)
