-- A net with oracles is a net: its literals are in range.
use Rattle.std.proofs.Common.{◌≡◌, ℕ, zero, suc, ◌+◌, ◌*◌, ◌/◌, ◌<◌, ◌≤◌, Bool, true, false, List, [], map, length, IsTrue, inl, inr, refl, sym, ap, subst, arith}
use Rattle.std.proofs.lemmas.Bool.{cases_lt}
use Rattle.std.proofs.lemmas.List.{get_or_past, length-map}
use Rattle.ltl_closure.specs.Nodes as node
use Rattle.ltl_closure.specs.Nodes.{Node, always, never, and, or, next, weak_next, until, release, node_at, PartsBelow}
use Rattle.aig_net.specs.declared.parts.And.{And}
use Rattle.aig_net.specs.Nets.{Net, no_and, and_at, literal_at, first_and, variables, Below, AllBelow, AreNames, AreOrdered, AreTurned, is_name, IsNet}
use Rattle.aig_net.specs.Wires.{Wire, literal, opposed, either, wire_at, WireBelow, made_each}
use Rattle.sym_tableau.specs.Oracles.{is_temporal, foretold, oracles_below, oracles, moved, moved_literal, moved_and, oracle, owed, attached_latches, attached_first, member_wire, members, gathered, optional, promise, beginning, end_of, promises, ends, kept_wires, fair_wires, no_names, attach}
use Rattle.aig_net.proofs.Literals.{below-even, below-opposite, below-under, renumbered}
use Rattle.aig_net.proofs.Wiring.{below-more, all-grow, all-length, all-ordered, all-turned, each-length, each-grow, each-ordered, made-turned}
use Rattle.hy_base.proofs.Listed.{each-append, each-listed, each-map, length-listed}
use Rattle.sym_tableau.proofs.Counting.{oracles-upto}
use Rattle.sym_tableau.proofs.Gathering.{gathered-all}
use Rattle.sym_tableau.proofs.Parts.{moved-early, moved-late, many-latches, many-resets, and-moved, facts-latch}

below-at : (n : ℕ) (literals : List ℕ) → 0 < n → AllBelow n literals → (k : ℕ) → Below n
    (literal_at literals k)
below-at n literals some all k =
    elim (cases_lt k (length literals)) [
      | inl lt ↦ all k lt
      | inr past ↦ let P : ℕ → Type 0 = Below n in subst P (sym (get_or_past literals k 0 past))
          (omega arith)
    ]

member-below : (n k : ℕ) (signal : ℕ → ℕ → ℕ) (lit : ℕ → ℕ) (o : ℕ) → 0 < n → ((a x : ℕ) → Below n
    (signal a x)) → ((g : ℕ) → g < k → Below n (lit g)) → Below n o → (node : Node) → PartsBelow k
    node → WireBelow n (member_wire signal lit o node)
member-below n k signal lit o some s l ob always below = omega arith
member-below n k signal lit o some s l ob never below = omega arith
member-below n k signal lit o some s l ob (node.literal true a x) below = s a x
member-below n k signal lit o some s l ob (node.literal false a x) below = below-opposite n
    (signal a x) (s a x)
member-below n k signal lit o some s l ob (and g h) (p, q) = (l g p, l h q)
member-below n k signal lit o some s l ob (or g h) (p, q) = (l g p, l h q)
member-below n k signal lit o some s l ob (next g) below = ob
member-below n k signal lit o some s l ob (weak_next g) below = ob
member-below n k signal lit o some s l ob (until g h) (p, q) = (l h q, (l g p, ob))
member-below n k signal lit o some s l ob (release g h) (p, q) = (l h q, (l g p, ob))

module _ (net : Net) (nodes : List Node) where
  abbrev first : ℕ
  first = attached_first net nodes

  moved-below : (x y : ℕ) → x < y → net.inputs < y → moved net nodes x < moved net nodes y
  moved-below x y lt past =
      let late = moved-late net nodes y past in
      elim (cases_lt net.inputs x) [
        | inl big ↦ omega (arith, late, moved-late net nodes x big)
        | inr small ↦ omega (arith, late, moved-early net nodes x small)
      ]

  moved-literal-below : (n l : ℕ) → Below (first_and net + n) l → Below (first + n)
      (moved_literal net nodes l)
  moved-literal-below n l below =
      below-under (first + n) (first_and net + n) (λ v. 2 * moved net nodes v) l
      (λ x lt. let e = and-moved net nodes n in let m = moved-below x (first_and net + n) lt
      (omega arith) in below-even (first + n) (moved net nodes x) (omega (arith, e, m)))
      below

  moved-ordered : AreOrdered (first_and net) net.ands → AreOrdered first (map (moved_and net nodes)
      net.ands)
  moved-ordered good =
      each-map (moved_and net nodes) no_and no_and net.ands (λ j a. Below (first + j) a.left
      × Below (first + j) a.right)
      (λ j lt. let (l, r) = good j lt in (
        moved-literal-below j (and_at net.ands j).left l,
        moved-literal-below j (and_at net.ands j).right r,
      ))

  -- old variables are below the new ands
  old-below : (l n : ℕ) → Below (variables net) l → length net.ands ≤ n → Below (first + n)
      (moved_literal net nodes l)
  old-below l n below le = below-more (first + length net.ands) (first + n) (moved_literal net
      nodes l) (omega arith) (moved-literal-below (length net.ands) l below)

  module _ (good : IsNet net) (signals : ℕ → ℕ → ℕ) (roots : List ℕ) (reads : (n x : ℕ) → Below
      (variables net) (signals n x)) (parts : (k : ℕ) → k < length nodes → PartsBelow k
      (node_at nodes k)) where
    abbrev lit : ℕ → ℕ
    lit = literal_at (members net nodes signals).literals

    abbrev wire : (ℕ → ℕ) → ℕ → Wire
    wire before k = member_wire (λ n x. moved_literal net nodes (signals n x)) before
        (oracle net nodes k) (node_at nodes k)

    abbrev ands : List And
    ands = map (moved_and net nodes) net.ands

    many-ands : length ands ≡ length net.ands
    many-ands = length-map net.ands (moved_and net nodes)

    few-latches : (k : ℕ) → k ≤ length nodes → oracles_below nodes k ≤ oracles nodes
    few-latches k le = oracles-upto nodes (length nodes) k le

    values-ordered : AreOrdered first (members net nodes signals).ands × ((k : ℕ) → k < length
        nodes → Below (first + length (members net nodes signals).ands) (lit k))
    values-ordered =
        each-ordered first ands wire (length nodes) (moved-ordered good.ordered)
        (λ k lt before.
        let more = each-grow first ands wire k in
        let m = many-ands in
        let ls = many-latches net nodes in
        let few = few-latches k (omega arith) in
        let n : ℕ = length (made_each first ands wire k).ands in
        member-below (first + n) k (λ a x. moved_literal net nodes (signals a x))
        (literal_at (made_each first ands wire k).literals) (oracle net nodes k) (omega arith)
        (λ a x. old-below (signals a x) n (reads a x) (omega (arith, more, m))) before
        (below-even (first + n) (suc (net.inputs + oracles_below nodes k))
        (omega (arith, ls, few))) (node_at nodes k) (parts k lt))

    lit-below : (k : ℕ) → Below (first + length (members net nodes signals).ands) (lit k)
    lit-below k =
        elim (cases_lt k (length nodes)) [
          | inl lt ↦ values-ordered.1 k lt
          | inr past ↦
              let many : length (members net nodes signals).literals ≡ length nodes = each-length
              first ands wire (length nodes) in
              let P : ℕ → Type 0 = Below (first + length (members net nodes signals).ands) in
              subst P (sym (get_or_past (members net nodes signals).literals k 0
              (omega (arith, many, past)))) (omega arith)
        ]

    optional-below : (n : ℕ) (b : Bool) (w : Wire) → WireBelow n w → (q : ℕ) → q < length
        (optional b w) → WireBelow n (wire_at (optional b w) q)
    optional-below n true w below zero lt = below
    optional-below n true w below (suc q) lt = absurd (omega arith)
    optional-below n false w below q lt = absurd (omega arith)

    promises-below : (q : ℕ) → q < length (promises net nodes lit roots) → WireBelow
        (first + length (members net nodes signals).ands) (wire_at (promises net nodes lit roots) q)
    promises-below =
        let n : ℕ = first + length (members net nodes signals).ands in
        let ls = many-latches net nodes in
        each-append (literal 0) (gathered (promise net nodes lit) (length nodes))
        (map (beginning net nodes lit) roots) (λ _ w. WireBelow n w)
        (gathered-all (promise net nodes lit) (WireBelow n) (length nodes)
        (λ k q lt small.
        let few = few-latches k (omega arith) in
        optional-below n (is_temporal (node_at nodes k))
        (either (opposed (literal (owed net nodes k)))
        (literal (lit (foretold k (node_at nodes k))))) (
          below-even n (suc (net.inputs + oracles nodes + oracles_below nodes k))
              (omega (arith, ls, few)),
          lit-below (foretold k (node_at nodes k)),
        ) q small))
        (each-map (beginning net nodes lit) 0 (literal 0) roots (λ _ w. WireBelow n w)
        (λ j lt. (
          below-even n (suc (net.inputs + oracles nodes + oracles nodes))
              (omega (arith, ls)),
          lit-below (literal_at roots j),
        )))

    kept-ordered : AreOrdered first (kept_wires net nodes signals roots).ands
        × ((j : ℕ) → j < length (promises net nodes lit roots) → Below
        (first + length (kept_wires net nodes signals roots).ands)
        (literal_at (kept_wires net nodes signals roots).literals j))
    kept-ordered = all-ordered first (members net nodes signals).ands (promises net nodes lit
        roots) values-ordered.0 promises-below

    kept-more : length (members net nodes signals).ands ≤ length (kept_wires net nodes signals
        roots).ands
    kept-more = all-grow first (members net nodes signals).ands (promises net nodes lit roots)

    end-below : (k : ℕ) (node : Node) (q : ℕ) → q < length (end_of lit k node) → WireBelow
        (first + length (kept_wires net nodes signals roots).ands) (wire_at (end_of lit k node) q)
    end-below k (until g h) zero lt =
        let more = kept-more in (
          below-more _ _ (lit k) (omega (arith, more)) (lit-below k),
          below-more _ _ (lit h)
              (omega (arith, more)) (lit-below h),
        )
    end-below k (until g h) (suc q) lt = absurd (omega arith)
    end-below k always q lt = absurd (omega arith)
    end-below k never q lt = absurd (omega arith)
    end-below k (node.literal b n x) q lt = absurd (omega arith)
    end-below k (and g h) q lt = absurd (omega arith)
    end-below k (or g h) q lt = absurd (omega arith)
    end-below k (next g) q lt = absurd (omega arith)
    end-below k (weak_next g) q lt = absurd (omega arith)
    end-below k (release g h) q lt = absurd (omega arith)

    fair-ordered : AreOrdered first (fair_wires net nodes signals roots).ands
        × ((j : ℕ) → j < length (ends nodes lit) → Below (first + length (fair_wires net nodes
        signals roots).ands) (literal_at (fair_wires net nodes signals roots).literals j))
    fair-ordered =
        all-ordered first (kept_wires net nodes signals roots).ands (ends nodes lit) kept-ordered.0
        (gathered-all (λ k. end_of lit k (node_at nodes k))
        (WireBelow (first + length (kept_wires net nodes signals roots).ands)) (length nodes)
        (λ k q lt small. end-below k (node_at nodes k) q small))

    fair-more : length (kept_wires net nodes signals roots).ands ≤ length (fair_wires net nodes
        signals roots).ands
    fair-more = all-grow first (kept_wires net nodes signals roots).ands (ends nodes lit)

    all-more : length net.ands ≤ length (fair_wires net nodes signals roots).ands
    all-more =
        let a = fair-more in
        let b = kept-more in
        let c = each-grow first ands wire (length nodes) in
        let d = many-ands in
        omega (arith, a, b, c, d)

    abbrev new : Net
    new = attach net nodes signals roots

    same-names : (n : ℕ) → AreNames n (no_names n)
    same-names n = record {
      many = length-listed 0 n (λ _. []);
      good = each-listed [] n (λ _. []) (λ _ name. IsTrue (is_name name)) (λ j lt. refl);
    }

    same-names-of : (n k : ℕ) → k ≡ n → AreNames k (no_names n)
    same-names-of n k e = let P : ℕ → Type 0 = λ k. AreNames k (no_names n) in
        subst P (sym e) (same-names n)

    moved-grows : (x y : ℕ) → x ≤ y → moved net nodes x ≤ moved net nodes y
    moved-grows x y le =
        elim (cases_lt net.inputs y) [
          | inl past ↦ elim (cases_lt x y) [
            | inl lt ↦ let m = moved-below x y lt past in omega (arith, m)
            | inr more ↦ let e : x ≡ y = omega arith in let m = ap (moved net nodes) e in
                omega (arith, m)
          ]
          | inr early ↦
              let a = moved-early net nodes x (omega arith) in
              let b = moved-early net nodes y early in
              omega (arith, a, b)
        ]

    literal-grows : (l m : ℕ) → l ≤ m → moved_literal net nodes l ≤ moved_literal net nodes m
    literal-grows l m le =
        let a = renumbered (moved net nodes) l in
        let b = renumbered (moved net nodes) m in
        elim (cases_lt (l / 2) (m / 2)) [
          | inl lt ↦
              elim (cases_lt net.inputs (m / 2)) [
                | inl past ↦ let c = moved-below (l / 2) (m / 2) lt past in omega (arith, a, b, c)
                | inr early ↦
                    let d = moved-early net nodes (l / 2) (omega arith) in
                    let e = moved-early net nodes (m / 2) early in
                    omega (arith, a, b, d, e)
              ]
          | inr same ↦
              let e : l / 2 ≡ m / 2 = omega arith in
              let c = ap (moved net nodes) e in
              omega (arith, a, b, c)
        ]

    moved-turned : AreTurned (map (moved_and net nodes) net.ands)
    moved-turned =
        each-map (moved_and net nodes) no_and no_and net.ands (λ _ a. a.right ≤ a.left)
        (λ j lt. literal-grows (and_at net.ands j).right (and_at net.ands j).left
        (good.turned j lt))

    each-turned : (n : ℕ) → AreTurned (made_each first ands wire n).ands
    each-turned zero = moved-turned
    each-turned (suc n) =
        made-turned first (made_each first ands wire n).ands
        (wire (literal_at (made_each first ands wire n).literals) n) (each-turned n)

    fair-turned : AreTurned (fair_wires net nodes signals roots).ands
    fair-turned =
        all-turned first (kept_wires net nodes signals roots).ands (ends nodes lit)
        (all-turned first (members net nodes signals).ands (promises net nodes lit roots)
        (each-turned (length nodes)))

    old-in-all : (l : ℕ) → Below (variables net) l → Below (variables new)
        (moved_literal net nodes l)
    old-in-all l below =
        old-below l (length (fair_wires net nodes signals roots).ands) below all-more

    moved-in-all : (literals : List ℕ) → AllBelow (variables net) literals →
        AllBelow (variables new) (map (moved_literal net nodes) literals)
    moved-in-all literals all =
        each-map (moved_literal net nodes) 0 0 literals (λ _ l. Below (variables new) l)
        (λ j lt. old-in-all (literal_at literals j) (all j lt))

    pub attached-net : IsNet new
    attached-net =
        let n : ℕ = variables new in
        let ls = many-latches net nodes in
        let rs = many-resets net nodes in
        record {
          latches =
              facts-latch net nodes (λ _ l. Below n l) (record {
                on_oracle = λ o lt. below-even n (suc (net.inputs + o)) (omega (arith, ls, lt));
                on_started = omega arith;
                on_old = λ j lt. old-in-all (literal_at net.latches j) (good.latches j lt);
              });
          resets = let e = good.resets in omega (arith, ls, rs, e);
          ordered = fair-ordered.0;
          turned = fair-turned;
          outputs = moved-in-all net.outputs good.outputs;
          constraints =
              each-append 0 (map (moved_literal net nodes) net.constraints)
              (kept_wires net nodes signals roots).literals (λ _ l. Below n l)
              (moved-in-all net.constraints good.constraints)
              (λ j lt.
              let many = all-length first (members net nodes signals).ands
              (promises net nodes lit roots) in
              let f = fair-more in
              below-more _ n (literal_at (kept_wires net nodes signals roots).literals j)
              (omega (arith, f)) (kept-ordered.1 j (omega (arith, many, lt))));
          fairs =
              each-append 0 (map (moved_literal net nodes) net.fairs)
              (fair_wires net nodes signals roots).literals (λ _ l. Below n l)
              (moved-in-all net.fairs good.fairs)
              (λ j lt.
              let many = all-length first (kept_wires net nodes signals roots).ands
              (ends nodes lit) in
              fair-ordered.1 j (omega (arith, many, lt)));
          input_names = same-names (net.inputs + oracles nodes);
          latch_names = same-names (length (attached_latches net nodes));
          output_names = same-names-of (length net.outputs) (length new.outputs)
              (length-map net.outputs (moved_literal net nodes));
        }
