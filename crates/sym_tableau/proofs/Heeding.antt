-- On an execution of the net with oracles the roots hold.
use Rattle.std.proofs.Common.{◌≡◌, ℕ, suc, ◌+◌, ◌<◌, ◌≤◌, Bool, true, false, not, ◌&&◌, List, map, length, IsTrue, inl, inr, refl, sym, ap, ◌∙◌, subst, arith}
use Rattle.std.proofs.lemmas.Bool.{cases_lt, and_parts, not-true}
use Rattle.std.proofs.lemmas.List.{get_or_past}
use Rattle.hy_formula.specs.Temporal.{endless}
use Rattle.hy_formula.specs.Normals.{Normal, HoldsAt}
use Rattle.ltl_closure.specs.Nodes as node
use Rattle.ltl_closure.specs.Nodes.{Node, always, never, and, or, next, weak_next, until, release, node_at, PartsBelow, Numbers, Local, AreMarks}
use Rattle.ltl_closure.proofs.Marking.{marks-hold}
use Rattle.aig_net.specs.declared.parts.Reset.{Reset}
use Rattle.aig_net.specs.declared.parts.Reset.TheVariants.{Zero}
use Rattle.aig_net.specs.Nets.{Net, Valuation, ResetTo, literal_value, literal_at, reset_at, latch_variable, IsStart, IsStep, AllTrue}
use Rattle.aig_net.specs.Executions.{Word, IsFair, IsExecution}
use Rattle.aig_net.specs.Wires.{Wire, literal, opposed, either, wire_value, wire_at, made_each}
use Rattle.sym_tableau.specs.Oracles.{read, is_temporal, foretold, oracles_below, oracles, moved_literal, moved_and, oracle, owed, started, attached_first, member_wire, members, gathered, optional, promise, beginning, end_of, promises, ends, kept_wires, fair_wires, attach, unmoved}
use Rattle.aig_net.proofs.Literals.{value-even, value-opposite}
use Rattle.aig_net.proofs.Wiring.{all-length, lit-from}
use Rattle.sym_tableau.proofs.Parts.{LatchFacts, oracle-below, moved-value, latch-moved, member-value, promise-value, end-value, old-right, latch-facts, many-latches, reset-old, reset-started}
use Rattle.hy_base.proofs.Listed.{append-each, map-each}
use Rattle.aig_net.proofs.Disjunctions.{or-true, or-kept}
use Rattle.sym_tableau.proofs.Gathering.{gathered-has}

module _ (v : Valuation) (constant : v 0 ≡ false) (signal : ℕ → ℕ → ℕ) (lit : ℕ → ℕ) (o k : ℕ)
    (T N : ℕ → Type 0) (letter : ℕ → ℕ → Bool) (reads : (n x : ℕ) → letter n x ≡ literal_value v
    (signal n x)) (knows : (g : ℕ) → g < k → literal_value v (lit g) ≡ true → T g) where
  pub to-local : (node : Node) → PartsBelow k node → (is_temporal node ≡ true → literal_value v
      o ≡ true → N (foretold k node)) → wire_value v (member_wire signal lit o node) ≡ true → Local
      T N letter k node
  to-local always below owes h = tt
  to-local never below owes h = absurd (cc)
  to-local (node.literal true n x) below owes h = reads n x ∙ h
  to-local (node.literal false n x) below owes h = reads n x ∙ not-true
      (literal_value v (signal n x)) (sym (value-opposite v (signal n x)) ∙ h)
  to-local (and g h') (p, q) owes h = let (a, b) = and_parts _ _ h in (knows g p a, knows h' q b)
  to-local (or g h') (p, q) owes h = elim (or-true _ _ h) [
    | inl a ↦ inl (knows g p a)
    | inr b ↦ inr
        (knows h' q b)
  ]
  to-local (next g) below owes h = owes refl h
  to-local (weak_next g) below owes h = owes refl h
  to-local (until g h') (p, q) owes h =
      elim (or-true _ _ h) [
        | inl a ↦ inl (knows h' q a)
        | inr b ↦ let (x, y) = and_parts _ _
            b in inr (knows g p x, owes refl y)
      ]
  to-local (release g h') (p, q) owes h =
      let (a, b) = and_parts _ _ h in
      (knows h' q a, elim (or-true _ _ b) [ inl x ↦ inl (knows g p x) | inr y ↦ inr (owes refl y) ])

module _ (net : Net) (nodes : List Node) where
  module _ (signals : ℕ → ℕ → ℕ) (roots : List ℕ) (word : Word)
      (is : IsExecution (attach net nodes signals roots) word) where
    abbrev new : Net
    new = attach net nodes signals roots

    abbrev old : Word
    old = unmoved net nodes word

    abbrev lit : ℕ → ℕ
    lit = literal_at (members net nodes signals).literals

    abbrev signal : ℕ → ℕ → ℕ
    signal n x = moved_literal net nodes (signals n x)

    abbrev wire : (ℕ → ℕ) → ℕ → Wire
    wire before k = member_wire signal before (oracle net nodes k) (node_at nodes k)

    abbrev lit-at : ℕ → ℕ → ℕ
    lit-at n = literal_at (made_each (attached_first net nodes) (map (moved_and net nodes)
        net.ands) wire n).literals

    start-at : (j : ℕ) → j < length new.latches → (r : Reset) →
        reset_at new.resets j ≡ r → ResetTo r (word 0 (latch_variable new j))
    start-at j lt r e = let P : Reset → Type 0 = λ r. ResetTo r (word 0 (latch_variable new j)) in
        subst P e (is.run.starts j lt)

    old-start : IsStart net (old 0)
    old-start j lt =
        let ls = many-latches net nodes in
        let P : ℕ → Type 0 = λ u. ResetTo (reset_at net.resets j) (word 0 u) in
        subst P (latch-moved net nodes j) (start-at (oracles nodes + suc j)
        (omega (arith, lt, ls)) (reset_at net.resets j) (reset-old net nodes j))

    started-false : literal_value (word 0) (started net nodes) ≡ false
    started-false =
        let ls = many-latches net nodes in
        value-even (word 0) (suc (net.inputs + oracles nodes + oracles nodes))
        ∙ start-at (oracles nodes) (omega (arith, ls)) Zero (reset-started net nodes)

    step-facts : (i : ℕ) → LatchFacts net nodes
        (λ j l. word (suc i) (latch_variable new j) ≡ literal_value (word i) l)
    step-facts i =
        latch-facts net nodes
        (λ j l. word (suc i) (latch_variable new j) ≡ literal_value (word i) l) (is.run.goes i)

    old-step : (i : ℕ) → IsStep net (old i) (old (suc i))
    old-step i j lt =
        ap (word (suc i)) (sym (latch-moved net nodes j)) ∙ (step-facts i).on_old j lt
        ∙ moved-value net nodes (word i) (literal_at net.latches j)

    kept-both : (i : ℕ) → AllTrue (map (moved_literal net nodes) net.constraints) (word i)
        × AllTrue (kept_wires net nodes signals roots).literals (word i)
    kept-both i =
        let P : ℕ → ℕ → Type 0 = λ _ l. IsTrue (literal_value (word i) l) in
        append-each 0 (map (moved_literal net nodes) net.constraints) (kept_wires net nodes signals
        roots).literals P (is.run.kept i)

    old-kept : (i : ℕ) → AllTrue net.constraints (old i)
    old-kept i j lt =
        let P : ℕ → ℕ → Type 0 = λ _ l. IsTrue (literal_value (word i) l) in
        sym (moved-value net nodes (word i) (literal_at net.constraints j)) ∙ map-each
        (moved_literal net nodes) 0 0 net.constraints P (kept-both i).0 j lt

    abbrev Again : ℕ → ℕ → Type 0
    Again _ l = (i : ℕ) → (k : ℕ) × (i ≤ k) × IsTrue (literal_value (word k) l)

    fair-both : ((j : ℕ) → j < length (map (moved_literal net nodes) net.fairs) → Again j
        (literal_at (map (moved_literal net nodes) net.fairs) j)) × ((j : ℕ) → j < length
        (fair_wires net nodes signals roots).literals → Again j
        (literal_at (fair_wires net nodes signals roots).literals j))
    fair-both = append-each 0 (map (moved_literal net nodes) net.fairs) (fair_wires net nodes
        signals roots).literals (λ _ l. Again 0 l) is.fair

    old-fair : IsFair net old
    old-fair j lt i =
        let (k, from, here) = map-each (moved_literal net nodes) 0 0 net.fairs (λ _ l. Again 0 l)
        fair-both.0 j lt i in
        (k, from, sym (moved-value net nodes (word k) (literal_at net.fairs j)) ∙ here)

    pub old-execution : IsExecution net old
    old-execution = record {
      run = record {
        starts = old-start;
        right = λ i. old-right net nodes signals roots (word i)
            (is.run.right i);
        goes = old-step;
        kept = old-kept;
      };
      fair = old-fair;
    }

    -- ---- the marks

    wire-kept : (i q : ℕ) → q < length (promises net nodes lit roots) → IsTrue (wire_value (word i)
        (wire_at (promises net nodes lit roots) q))
    wire-kept i q lt =
        let all = promise-value net nodes signals roots (word i) (is.run.right i) in
        let many = all-length (attached_first net nodes) (members net nodes signals).ands
        (promises net nodes lit roots) in
        sym (all q lt) ∙ (kept-both i).1 q (omega (arith, many, lt))

    wires-kept : (i : ℕ) → ((q : ℕ) → q < length (gathered (promise net nodes lit)
        (length nodes)) → IsTrue (wire_value (word i) (wire_at (gathered (promise net nodes lit)
        (length nodes)) q))) × ((q : ℕ) → q < length (map (beginning net nodes lit) roots) → IsTrue
        (wire_value (word i) (wire_at (map (beginning net nodes lit) roots) q)))
    wires-kept i = append-each (literal 0) (gathered (promise net nodes lit) (length nodes))
        (map (beginning net nodes lit) roots) (λ _ w. IsTrue (wire_value (word i) w)) (wire-kept i)

    one-of : (b : Bool) (w : Wire) → b ≡ true → (0 < length (optional b w))
        × (wire_at (optional b w) 0 ≡ w)
    one-of true w e = (omega arith, refl)
    one-of false w e = absurd (cc)

    promised : (i k : ℕ) → k < length nodes → is_temporal (node_at nodes k) ≡ true → IsTrue
        (literal_value (word i) (owed net nodes k)) → IsTrue (literal_value (word i)
        (lit (foretold k (node_at nodes k))))
    promised i k lt is_t here =
        let w : Wire = either (opposed (literal (owed net nodes k)))
        (literal (lit (foretold k (node_at nodes k)))) in
        let (some, e) = one-of (is_temporal (node_at nodes k)) w is_t in
        let (q, small, same) = gathered-has (promise net nodes lit) (length nodes) k 0 lt some in
        let P : Wire → Type 0 = λ w. IsTrue (wire_value (word i) w) in
        or-kept _ _ (subst P (same ∙ e) ((wires-kept i).0 q small)) here

    foretells : (i k : ℕ) → k < length nodes → is_temporal (node_at nodes k) ≡ true → literal_value
        (word i) (oracle net nodes k) ≡ true → literal_value (word (suc i))
        (lit (foretold k (node_at nodes k))) ≡ true
    foretells i k lt is_t here =
        let o : ℕ = oracles_below nodes k in
        let there : word (suc i) (latch_variable new o) ≡ literal_value (word i)
        (oracle net nodes k) = (step-facts i).on_oracle o (oracle-below nodes (length nodes) k
        lt is_t) in
        promised (suc i) k lt is_t (value-even (word (suc i))
        (suc (net.inputs + oracles nodes + o)) ∙ there ∙ here)

    abbrev marks : ℕ → ℕ → Bool
    marks k i = literal_value (word i) (lit k)

    mark-local : ((k : ℕ) → k < length nodes → PartsBelow k (node_at nodes k)) → (k i : ℕ) →
        k < length nodes → IsTrue (marks k i) → Local (λ q. IsTrue (marks q i))
        (λ q. IsTrue (marks q (suc i))) (λ n x. read signals old n x i) k (node_at nodes k)
    mark-local parts k i lt here =
        to-local (word i) (is.run.right i).constant signal (lit-at k) (oracle net nodes k) k
        (λ q. IsTrue (marks q i)) (λ q. IsTrue (marks q (suc i))) (λ n x. read signals old n x
        i)
        (λ n x. sym (moved-value net nodes (word i) (signals n x)))
        (λ g below e. ap (literal_value (word i)) (lit-from (attached_first net nodes)
        (map (moved_and net nodes) net.ands) wire (length nodes) k g (omega arith) below) ∙ e)
        (node_at nodes k) (parts k lt) (foretells i k lt) (sym (member-value net nodes signals
        roots (word i) (is.run.right i) k lt) ∙ here)

    wire-fair : (q : ℕ) → q < length (ends nodes lit) → (i : ℕ) → (j : ℕ) × (i ≤ j) × IsTrue
        (wire_value (word j) (wire_at (ends nodes lit) q))
    wire-fair q lt i =
        let many = all-length (attached_first net nodes) (kept_wires net nodes signals roots).ands
        (ends nodes lit) in
        let (j, from, here) = fair-both.1 q (omega (arith, many, lt)) i in
        let all = end-value net nodes signals roots (word j) (is.run.right j) in
        (j, from, sym (all q lt) ∙ here)

    out-of-range : (k g h : ℕ) → node_at nodes k ≡ until g h → length nodes ≤ k → ⊥
    out-of-range k g h e past = let none : node_at nodes k ≡ always = get_or_past nodes k always
        past in never-until (sym none ∙ e)
      where
        never-until : always ≡ until g h → ⊥
        never-until e = cc

    mark-ends : (k g h i : ℕ) → node_at nodes k ≡ until g h → (j : ℕ) × (i ≤ j)
        × (IsTrue (marks k j) → IsTrue (marks h j))
    mark-ends k g h i e =
        elim (cases_lt k (length nodes)) [
          | inl lt ↦
              let P : Node → Type 0 = λ node. (0 < length (end_of lit k node))
              × (wire_at (end_of lit k node) 0 ≡ either (opposed (literal (lit k)))
              (literal (lit h))) in
              let (some, same) = subst P (sym e) (omega arith, refl) in
              let (q, small, at) = gathered-has (λ k. end_of lit k (node_at nodes k))
              (length nodes) k 0 lt some in
              let (j, from, here) = wire-fair q small i in
              let Q : Wire → Type 0 = λ w. IsTrue (wire_value (word j) w) in
              (j, from, or-kept _ _ (subst Q (at ∙ same) here))
          | inr past ↦ absurd (out-of-range k g h e past)
        ]

    pub roots-hold : (form : ℕ → Normal) → Numbers nodes form → (r : ℕ) → r < length roots →
        literal_at roots r < length nodes → HoldsAt endless (read signals old)
        (form (literal_at roots r)) 0
    roots-hold form numbers r lt in_range =
        let marked : AreMarks nodes (read signals old) marks = record {
          local = mark-local
              numbers.parts;
          ends = mark-ends;
        } in
        let begun = map-each (beginning net nodes lit) 0 (literal 0) roots
        (λ _ w. IsTrue (wire_value (word 0) w)) (wires-kept 0).1 r lt in
        marks-hold nodes form (read signals old) marks numbers marked (literal_at roots r) 0
        in_range (not-started _ _ begun started-false)
      where
        not-started : (a b : Bool) → not (not a && not b) ≡ true → a ≡ false → b ≡ true
        not-started true b h e = absurd (cc)
        not-started false true h e = refl
        not-started false false h e = absurd (cc)
