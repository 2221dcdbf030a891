-- How large a net with oracles is.
use Rattle.std.proofs.Common.{ℕ, zero, suc, ◌+◌, ◌*◌, ◌<◌, ◌≤◌, Bool, true, false, List, map, length, arith, length-append}
use Rattle.std.proofs.lemmas.List.{length-map}
use Rattle.ltl_closure.specs.Nodes as node
use Rattle.ltl_closure.specs.Nodes.{Node, always, never, and, or, next, weak_next, until, release, node_at}
use Rattle.aig_net.specs.Nets.{Net, literal_at, variables}
use Rattle.aig_net.specs.Wires.{Wire, literal, opposed, either, wire_at}
use Rattle.aig_net.proofs.Wiring.{all-length}
use Rattle.aig_net.proofs.Costs.{all-cost, cost, each-cost}
use Rattle.hy_base.proofs.Listed.{each-append, each-map}
use Rattle.sym_tableau.specs.Oracles.{attach, attached_first, beginning, end_of, ends, fair_wires, foretold, gathered, is_temporal, kept_wires, member_wire, members, moved_and, moved_literal, optional, oracle, owed, promise, promises}
use Rattle.sym_tableau.proofs.Counting.{oracles-few}
use Rattle.sym_tableau.proofs.Gathering.{gathered-all}
use Rattle.sym_tableau.proofs.Parts.{many-latches}

gathered-length : (f : ℕ → List Wire) → ((k : ℕ) → length (f k) ≤ 1) → (n : ℕ) →
    length (gathered f n) ≤ n
gathered-length f few zero = omega arith
gathered-length f few (suc n) =
    let l = length-append (gathered f n) (f n) in
    let here = few n in
    omega (arith, l, here, gathered-length f few n)

module _ (net : Net) (nodes : List Node) (signals : ℕ → ℕ → ℕ) (roots : List ℕ) where
  abbrev first : ℕ
  first = attached_first net nodes

  abbrev lit : ℕ → ℕ
  lit = literal_at (members net nodes signals).literals

  member-cost : (signal : ℕ → ℕ → ℕ) (lit : ℕ → ℕ) (o : ℕ) (node : Node) →
      cost (member_wire signal lit o node) ≤ 2
  member-cost signal lit o always = omega arith
  member-cost signal lit o never = omega arith
  member-cost signal lit o (node.literal b n x) = omega arith
  member-cost signal lit o (and g h) = omega arith
  member-cost signal lit o (or g h) = omega arith
  member-cost signal lit o (next g) = omega arith
  member-cost signal lit o (weak_next g) = omega arith
  member-cost signal lit o (until g h) = omega arith
  member-cost signal lit o (release g h) = omega arith

  members-cost : length (members net nodes signals).ands ≤ length net.ands + 2 * length nodes
  members-cost =
      let many = length-map net.ands (moved_and net nodes) in
      let each = each-cost first (map (moved_and net nodes) net.ands)
      (λ lit k. member_wire (λ n v. moved_literal net nodes (signals n v)) lit
      (oracle net nodes k) (node_at nodes k)) 2
      (λ lit k. member-cost (λ n v. moved_literal net nodes (signals n v)) lit
      (oracle net nodes k) (node_at nodes k)) (length nodes) in
      omega (arith, many, each)

  optional-few : (b : Bool) (w : Wire) → length (optional b w) ≤ 1
  optional-few true w = omega arith
  optional-few false w = omega arith

  optional-cost : (b : Bool) (w : Wire) → cost w ≤ 1 → (q : ℕ) → q < length (optional b w) →
      cost (wire_at (optional b w) q) ≤ 1
  optional-cost true w few zero lt = few
  optional-cost true w few (suc q) lt = absurd (omega arith)
  optional-cost false w few q lt = absurd (omega arith)

  promises-few : length (promises net nodes lit roots) ≤ length nodes + length roots
  promises-few =
      let a = gathered-length (promise net nodes lit) (λ k. optional-few
      (is_temporal (node_at nodes k)) (either (opposed (literal (owed net nodes k)))
      (literal (lit (foretold k (node_at nodes k)))))) (length nodes) in
      let b = length-map roots (beginning net nodes lit) in
      let l = length-append (gathered (promise net nodes lit) (length nodes))
      (map (beginning net nodes lit) roots) in
      omega (arith, a, b, l)

  kept-cost : length (kept_wires net nodes signals roots).ands
      ≤ length (members net nodes signals).ands + (length nodes + length roots)
  kept-cost =
      let all = all-cost first (members net nodes signals).ands (promises net nodes lit roots) 1
      (each-append (literal 0) (gathered (promise net nodes lit) (length nodes))
      (map (beginning net nodes lit) roots) (λ _ w. cost w ≤ 1)
      (gathered-all (promise net nodes lit) (λ w. cost w ≤ 1) (length nodes)
      (λ k q lt small. optional-cost (is_temporal (node_at nodes k))
      (either (opposed (literal (owed net nodes k)))
      (literal (lit (foretold k (node_at nodes k))))) (omega arith) q small))
      (each-map (beginning net nodes lit) 0 (literal 0) roots (λ _ w. cost w ≤ 1)
      (λ j lt. omega arith))) in
      omega (arith, all, promises-few)

  end-few : (k : ℕ) (node : Node) → length (end_of lit k node) ≤ 1
  end-few k always = omega arith
  end-few k never = omega arith
  end-few k (node.literal b n x) = omega arith
  end-few k (and g h) = omega arith
  end-few k (or g h) = omega arith
  end-few k (next g) = omega arith
  end-few k (weak_next g) = omega arith
  end-few k (until g h) = omega arith
  end-few k (release g h) = omega arith

  end-cost : (k : ℕ) (node : Node) (q : ℕ) → q < length (end_of lit k node) →
      cost (wire_at (end_of lit k node) q) ≤ 1
  end-cost k (until g h) zero lt = omega arith
  end-cost k (until g h) (suc q) lt = absurd (omega arith)
  end-cost k always q lt = absurd (omega arith)
  end-cost k never q lt = absurd (omega arith)
  end-cost k (node.literal b n x) q lt = absurd (omega arith)
  end-cost k (and g h) q lt = absurd (omega arith)
  end-cost k (or g h) q lt = absurd (omega arith)
  end-cost k (next g) q lt = absurd (omega arith)
  end-cost k (weak_next g) q lt = absurd (omega arith)
  end-cost k (release g h) q lt = absurd (omega arith)

  fair-cost : length (fair_wires net nodes signals roots).ands
      ≤ length (kept_wires net nodes signals roots).ands + length nodes
  fair-cost =
      let all = all-cost first (kept_wires net nodes signals roots).ands (ends nodes lit) 1
      (gathered-all (λ k. end_of lit k (node_at nodes k)) (λ w. cost w ≤ 1) (length nodes)
      (λ k q lt small. end-cost k (node_at nodes k) q small)) in
      let few = gathered-length (λ k. end_of lit k (node_at nodes k))
      (λ k. end-few k (node_at nodes k)) (length nodes) in
      omega (arith, all, few)

  pub attached-size : variables (attach net nodes signals roots)
      ≤ variables net + 6 * length nodes + length roots + 1
  attached-size =
      let ls = many-latches net nodes in
      let few = oracles-few nodes (length nodes) in
      omega (arith, fair-cost, kept-cost, members-cost, ls, few)

  pub attached-latches : length (attach net nodes signals roots).latches
      ≤ length net.latches + length nodes + 1
  attached-latches =
      omega (arith, many-latches net nodes, oracles-few nodes (length nodes))

  ends-few : length (ends nodes lit) ≤ length nodes
  ends-few = gathered-length (λ k. end_of lit k (node_at nodes k))
      (λ k. end-few k (node_at nodes k)) (length nodes)

  pub attached-fairs : length (attach net nodes signals roots).fairs
      ≤ length net.fairs + length nodes
  attached-fairs =
      let a = length-map net.fairs (moved_literal net nodes) in
      let b = all-length first (kept_wires net nodes signals roots).ands (ends nodes lit) in
      let l = length-append (map (moved_literal net nodes) net.fairs)
      (fair_wires net nodes signals roots).literals in
      omega (arith, a, b, l, ends-few)
