-- The parts of a net with oracles.
use Rattle.std.proofs.Common.{◌≡◌, ℕ, zero, suc, ◌+◌, ◌*◌, ◌/◌, ◌<◌, ◌≤◌, true, false, ◌&&◌, nat_lt, List, ◌∷◌, map, length, length-append, inl, inr, refl, sym, ap, ◌∙◌, subst, arith}
use Rattle.std.proofs.lemmas.Bool.{cases_eq, false_from_ne_true}
use Rattle.std.proofs.lemmas.Bool.Decides.{Decides-ltb}
use Rattle.std.proofs.lemmas.List.{get_or_append_left, get_or-append-add, length-map}
use Rattle.hy_base.proofs.Truths.{counted-if, more-if}
use Rattle.ltl_closure.specs.Nodes.{Node, node_at}
use Rattle.aig_net.specs.declared.parts.And.{And}
use Rattle.aig_net.specs.declared.parts.Reset.TheVariants.{Zero}
use Rattle.aig_net.specs.Nets.{Net, no_and, Valuation, literal_value, and_value, and_at, literal_at, reset_at, latch_variable, first_and, AreRight, IsRight}
use Rattle.aig_net.specs.Wires.{Wire, wire_value, wire_at, made_each}
use Rattle.hy_base.specs.Rows.{listed}
use Rattle.sym_tableau.specs.Oracles.{is_temporal, oracles_below, oracles, moved, moved_literal, moved_and, oracle, attached_latches, attached_resets, attached_first, member_wire, members, promises, ends, kept_wires, fair_wires, attach}
use Rattle.aig_net.proofs.Literals.{value-same, value-under, value-even}
use Rattle.aig_net.proofs.Wiring.{all-right, each-right}
use Rattle.hy_base.proofs.Listed.{append-listed, at-listed, each-map, length-listed, listed-append, map-each}

pub oracle-below : (nodes : List Node) (n k : ℕ) → k < n → is_temporal (node_at nodes k) ≡ true →
    oracles_below nodes k < oracles_below nodes n
oracle-below nodes zero k lt is = absurd (omega arith)
oracle-below nodes (suc n) k lt is =
    elim (cases_eq k n) [
      | inl e ↦
          let P : ℕ → Type 0 = λ k. is_temporal (node_at nodes k) ≡ true → oracles_below nodes
          k < oracles_below nodes (suc n) in
          subst P (sym e) (counted-if (is_temporal (node_at nodes n)) (oracles_below nodes n)) is
      | inr apart ↦ omega (
        arith,
        oracle-below nodes n k (omega arith) is,
        more-if
            (is_temporal (node_at nodes n)) (oracles_below nodes n),
      )
    ]

module _ (net : Net) (nodes : List Node) where
  pub moved-value : (v : Valuation) (l : ℕ) → literal_value v (moved_literal net nodes
      l) ≡ literal_value (λ u. v (moved net nodes u)) l
  moved-value v l =
      value-under v (λ u. 2 * moved net nodes u) l ∙ value-same (λ u. literal_value v
      (2 * moved net nodes u)) (λ u. v (moved net nodes u)) l
      (value-even v (moved net nodes (l / 2)))

  pub moved-and-value : (v : Valuation) (a : And) → and_value v (moved_and net nodes a) ≡ and_value
      (λ u. v (moved net nodes u)) a
  moved-and-value v a =
      ap (λ b. b && literal_value v (moved_literal net nodes a.right)) (moved-value v a.left) ∙ ap
      (λ b. literal_value (λ u. v (moved net nodes u)) a.left && b) (moved-value v a.right)

  pub moved-late : (u : ℕ) → net.inputs < u → moved net nodes u ≡ u + (oracles nodes + suc
      (oracles nodes))
  moved-late u lt = rw ((Decides-ltb net.inputs u).1 lt) refl

  pub moved-early : (u : ℕ) → u ≤ net.inputs → moved net nodes u ≡ u
  moved-early u le =
      let e : nat_lt net.inputs u ≡ false = false_from_ne_true _
      (λ is. omega (arith, (Decides-ltb net.inputs u).0 is)) in
      rw e refl

  pub many-latches : length (attached_latches net nodes) ≡ oracles nodes + suc (length net.latches)
  many-latches =
      let all = length-append (listed 0 (oracles nodes) foreteller)
      (1 ∷ map (moved_literal net nodes) net.latches) in
      let a = length-listed 0 (oracles nodes) foreteller in
      let b : length (map (moved_literal net nodes) net.latches) ≡ length net.latches =
      length-map net.latches (moved_literal net nodes) in
      omega (arith, all, a, b)
    where
      foreteller : ℕ → ℕ
      foreteller o = 2 * suc (net.inputs + o)

  pub many-resets : length (attached_resets net nodes) ≡ oracles nodes + suc (length net.resets)
  many-resets =
      let all = length-append (listed 0 (oracles nodes) (λ _. Zero)) (Zero ∷ net.resets) in
      let a = length-listed 0 (oracles nodes) (λ _. Zero) in
      omega (arith, all, a)

  -- what each latch has
  pub record LatchFacts (P : ℕ → ℕ → Type 0) : Type 0 where
    pub on_oracle : (o : ℕ) → o < oracles nodes → P o (2 * suc (net.inputs + o))
    pub on_started : P (oracles nodes) 1
    pub on_old : (j : ℕ) → j < length net.latches →
        P (oracles nodes + suc j) (moved_literal net nodes (literal_at net.latches j))

  pub latch-facts : (P : ℕ → ℕ → Type 0) → ((j : ℕ) → j < length (attached_latches net nodes) →
      P j (literal_at (attached_latches net nodes) j)) → LatchFacts P
  latch-facts P all =
      let f : ℕ → ℕ = λ o. 2 * suc (net.inputs + o) in
      let old : List ℕ = map (moved_literal net nodes) net.latches in
      let (first, rest) = listed-append 0 (oracles nodes) f (1 ∷ old) P all in
      let none : oracles nodes + 0 ≡ oracles nodes = omega arith in
      let Q : ℕ → Type 0 = λ n. P n 1 in
      record {
        on_oracle = first;
        on_started = subst Q none (rest 0 (omega arith));
        on_old = map-each (moved_literal net nodes) 0 0 net.latches
            (λ j l. P (oracles nodes + suc j) l) (λ j lt. rest (suc j) (omega arith));
      }

  pub facts-latch : (P : ℕ → ℕ → Type 0) → LatchFacts P → (j : ℕ) →
      j < length (attached_latches net nodes) → P j (literal_at (attached_latches net nodes) j)
  facts-latch P facts =
      append-listed 0 (oracles nodes) (λ o. 2 * suc (net.inputs + o))
      (1 ∷ map (moved_literal net nodes) net.latches) P facts.on_oracle later
    where
      later : (j : ℕ) → j < suc (length (map (moved_literal net nodes) net.latches)) →
          P (oracles nodes + j) (literal_at (1 ∷ map (moved_literal net nodes) net.latches) j)
      later zero lt = let none : oracles nodes ≡ oracles nodes + 0 = omega arith in
          let Q : ℕ → Type 0 = λ n. P n 1 in subst Q none facts.on_started
      later (suc j) lt = each-map (moved_literal net nodes) 0 0 net.latches
          (λ j l. P (oracles nodes + suc j) l) facts.on_old j (omega arith)

  -- the reset of each latch
  many-zeros : length (listed 0 (oracles nodes) (λ _. Zero)) ≡ oracles nodes
  many-zeros = length-listed 0 (oracles nodes) (λ _. Zero)

  pub reset-oracle : (o : ℕ) → o < oracles nodes → reset_at (attached_resets net nodes) o ≡ Zero
  reset-oracle o lt =
      let m = many-zeros in
      get_or_append_left (listed 0 (oracles nodes) (λ _. Zero)) (Zero ∷ net.resets) Zero o
      (omega (arith, m, lt)) ∙ at-listed 0 (oracles nodes) (λ _. Zero) Zero o lt

  pub reset-started : reset_at (attached_resets net nodes) (oracles nodes) ≡ Zero
  reset-started =
      let m = many-zeros in
      let e : oracles nodes ≡ length (listed 0 (oracles nodes) (λ _. Zero)) + 0 = omega
      (arith, m) in
      ap (reset_at (attached_resets net nodes)) e
      ∙ get_or-append-add (listed 0 (oracles nodes) (λ _. Zero)) (Zero ∷ net.resets) 0 Zero

  pub reset-old : (j : ℕ) →
      reset_at (attached_resets net nodes) (oracles nodes + suc j) ≡ reset_at net.resets j
  reset-old j =
      let m = many-zeros in
      let e : oracles nodes + suc j ≡ length (listed 0 (oracles nodes) (λ _. Zero)) + suc j =
      omega (arith, m) in
      ap (reset_at (attached_resets net nodes)) e
      ∙ get_or-append-add (listed 0 (oracles nodes) (λ _. Zero)) (Zero ∷ net.resets) (suc j) Zero

  pub latch-moved : (j : ℕ) → suc (net.inputs + oracles nodes + (oracles nodes + suc j)) ≡ moved
      net nodes (latch_variable net j)
  latch-moved j = let e = moved-late (latch_variable net j) (omega arith) in omega (arith, e)

  pub and-moved : (j : ℕ) → attached_first net nodes + j ≡ moved net nodes (first_and net + j)
  and-moved j =
      let e = moved-late (first_and net + j) (omega arith) in
      let m = many-latches in
      omega (arith, e, m)

  -- what the gates of the new net say
  module _ (signals : ℕ → ℕ → ℕ) (roots : List ℕ) (v : Valuation)
      (right : IsRight (attach net nodes signals roots) v) where
    abbrev lit : ℕ → ℕ
    lit = literal_at (members net nodes signals).literals

    abbrev wire : (ℕ → ℕ) → ℕ → Wire
    wire before k = member_wire (λ n x. moved_literal net nodes (signals n x)) before
        (oracle net nodes k) (node_at nodes k)

    abbrev lit-at : ℕ → ℕ → ℕ
    lit-at n = literal_at (made_each (attached_first net nodes) (map (moved_and net nodes)
        net.ands) wire n).literals

    -- the gates, from the last to the first
    kept-right : AreRight (attached_first net nodes) (kept_wires net nodes signals roots).ands v
    kept-right = (all-right (attached_first net nodes) (kept_wires net nodes signals roots).ands
        (ends nodes lit) v right.gates).0

    members-right : AreRight (attached_first net nodes) (members net nodes signals).ands v
    members-right = (all-right (attached_first net nodes) (members net nodes signals).ands
        (promises net nodes lit roots) v kept-right).0

    pub member-value : (k : ℕ) → k < length nodes → literal_value v (lit k) ≡ wire_value v
        (wire (lit-at k) k)
    member-value k lt = (each-right (attached_first net nodes) (map (moved_and net nodes) net.ands)
        wire v (length nodes) members-right).1 k lt

    pub promise-value : (q : ℕ) → q < length (promises net nodes lit roots) → literal_value v
        (literal_at (kept_wires net nodes signals roots).literals q) ≡ wire_value v
        (wire_at (promises net nodes lit roots) q)
    promise-value = (all-right (attached_first net nodes) (members net nodes signals).ands
        (promises net nodes lit roots) v kept-right).1

    pub end-value : (q : ℕ) → q < length (ends nodes lit) → literal_value v
        (literal_at (fair_wires net nodes signals roots).literals q) ≡ wire_value v
        (wire_at (ends nodes lit) q)
    end-value = (all-right (attached_first net nodes) (kept_wires net nodes signals roots).ands
        (ends nodes lit) v right.gates).1

    pub old-right : IsRight net (λ u. v (moved net nodes u))
    old-right = record {
      constant = ap v (moved-early 0 (omega arith)) ∙ right.constant;
      gates = λ j lt.
          let all = (each-right (attached_first net nodes) (map (moved_and net nodes) net.ands)
          wire v (length nodes) members-right).0 in
          let P : ℕ → And → Type 0 = λ j a. v (attached_first net nodes + j) ≡ and_value v a in
          let here : v (attached_first net nodes + j) ≡ and_value v (moved_and net nodes
          (and_at net.ands j)) = map-each (moved_and net nodes) no_and no_and net.ands P all j
          lt in
          ap v (sym (and-moved j)) ∙ here ∙ moved-and-value v (and_at net.ands j);
    }
