use Rattle.std.proofs.Common.{◌≡◌, ℕ, List, length, sym, ap, ◌∙◌, subst, arith}
use Rattle.aig_net.specs.declared.signals.Signal.{Signal}
use Rattle.aig_net.specs.Nets.{literal_at}
use Rattle.aig_net.proofs.Wiring.{each-length}
use Rattle.ltl_closure.specs.Nodes.{Node, PartsBelow, node_at}
use Rattle.ltl_closure.specs.Plain.{plain_node}
use Rattle.sym_tableau.specs.declared.places.Places.{Places}
use Rattle.sym_tableau.specs.Oracles.{member_wire, oracles_below}
use Rattle.sym_tableau.specs.Places.{oracle_of, signal_of, value_of}
use Rattle.sym_tableau.proofs.Counting.{oracles-next, oracles-upto}
use Rattle.sym_tableau.proofs.Stepping.{each-made, each-room}
use Rattle.sym_tableau.proofs.values.member_values.Goals as goal

value-at : (p : Places) (nodes : List Node) (signals : List Signal) (k o oracle : ℕ)
    (node : Node) (values ls : List ℕ) → values ≡ ls → oracle ≡ oracle_of p o →
    o ≡ oracles_below nodes k → node ≡ node_at nodes k →
    member_wire (signal_of p signals) (literal_at values) oracle node ≡ value_of p nodes signals
    (literal_at ls) k
value-at p nodes signals k o oracle node values ls el eo ek en =
    ap (λ l. member_wire (signal_of p signals) (literal_at l) oracle node) el
    ∙ ap (λ o. member_wire (signal_of p signals) (literal_at ls) o node)
    (eo ∙ ap (oracle_of p) ek)
    ∙ ap (member_wire (signal_of p signals) (literal_at ls)
    (oracle_of p (oracles_below nodes k))) en

pub oracle-oracle-requires-clause-few : goal.oracle-oracle-requires-clause-few
oracle-oracle-requires-clause-few c =
    let within = oracles-upto c.args.closure.now.nodes (length c.args.closure.now.nodes) c.loop-k.k
    (omega (arith, c.loop-k-test.true, c.len-k-end.ensures.len)) in
    omega (arith, within, c.loop-k.invariant.1, c.requires.oracles)

pub member_value-requires-clause-parts : goal.member_value-requires-clause-parts
member_value-requires-clause-parts c =
    let many = ap length (c.as_slice.ensures ∙ c.loop-k.invariant.0.literals)
    ∙ each-length c.args.gates.now.first c.args.gates.now.ands
    (value_of c.args.places.now c.args.closure.now.nodes c.args.signals.now) c.loop-k.k in
    let P : ℕ → Type 0 = λ n. PartsBelow n (plain_node c.node-node.result) in
    subst P (sym many) c.node-node.ensures.operands

pub member_value-requires-clause-room : goal.member_value-requires-clause-room
member_value-requires-clause-room c =
    each-room c.args.gates.now.first _ c.args.gates.now.ands _
    (value_of c.args.places.now c.args.closure.now.nodes c.args.signals.now) c.loop-k.k
    c.loop-k.values _ c.loop-k.invariant.0 c.loop-k.invariant.2
    (value-at c.args.places.now c.args.closure.now.nodes c.args.signals.now c.loop-k.k _ _ _ _ _
    c.as_slice.ensures c.oracle-oracle.ensures c.loop-k.invariant.1 c.node-node.ensures.node)
    (length c.args.closure.now.nodes) (omega (arith, c.loop-k-test.true, c.len-k-end.ensures.len))
    c.requires.room

pub loop-k-preserved : goal.loop-k-preserved
loop-k-preserved c = (
  each-made c.args.gates.now.first _ c.args.gates.now.ands _
      (value_of c.args.places.now c.args.closure.now.nodes c.args.signals.now) c.loop-k.k
      c.loop-k.values _ c.loop-k.invariant.0 c.loop-k.invariant.2
      (value-at c.args.places.now c.args.closure.now.nodes c.args.signals.now c.loop-k.k _ _ _ _ _
      c.as_slice.ensures c.oracle-oracle.ensures c.loop-k.invariant.1 c.node-node.ensures.node)
      _ _ _ c.in_ok-value.ensures.made c.in_ok-push.ensures.added,
  oracles-next c.args.closure.now.nodes c.loop-k.k _ _ _ _ c.loop-k.invariant.1
      c.from-o.ensures c.is_temporal.ensures c.node-node.ensures.node,
  c.in_ok-value.ensures.first ∙ c.loop-k.invariant.2,
)
