use Rattle.std.proofs.Common.{◌≡◌, ℕ, ◌+◌, List, length, ◌∙◌, ap, arith}
use Rattle.aig_net.specs.Nets.{literal_at}
use Rattle.ltl_closure.specs.Nodes.{Node, node_at}
use Rattle.sym_tableau.specs.declared.places.Places.{Places}
use Rattle.sym_tableau.specs.Oracles.{oracles_below}
use Rattle.sym_tableau.specs.Places.{promise_at, promise_of}
use Rattle.sym_tableau.proofs.Counting.{oracles-few, oracles-next, oracles-upto}
use Rattle.sym_tableau.proofs.Stepping.{adds-next, adds-room}
use Rattle.sym_tableau.proofs.promises.add_promises.Goals as goal

promise-is : (p : Places) (nodes : List Node) (lit : ℕ → ℕ) (k o : ℕ) (node : Node) →
    o ≡ oracles_below nodes k → node ≡ node_at nodes k →
    promise_of p o lit k node ≡ promise_at p nodes lit k
promise-is p nodes lit k o node eo en =
    ap (λ o. promise_of p o lit k node) eo ∙ ap (promise_of p (oracles_below nodes k) lit k) en

pub add_promise-requires-clause-oracle : goal.add_promise-requires-clause-oracle
add_promise-requires-clause-oracle c =
    let within = oracles-upto c.args.closure.now.nodes (length c.args.closure.now.nodes) c.loop-k.k
    (omega (arith, c.loop-k-test.true, c.len-k-end.ensures.len)) in
    omega (arith, within, c.loop-k.invariant.1, c.requires.oracles)

pub add_promise-requires-clause-room : goal.add_promise-requires-clause-room
add_promise-requires-clause-room c =
    adds-room c.args.gates.now.first _ c.args.gates.now.ands _
    (promise_at c.args.places.now c.args.closure.now.nodes (literal_at c.args.values.now))
    c.loop-k.k _ _ _ c.loop-k.invariant.0 c.loop-k.invariant.2
    (promise-is c.args.places.now c.args.closure.now.nodes (literal_at c.args.values.now)
    c.loop-k.k _ _ c.loop-k.invariant.1 c.node-node.ensures.node)
    (length c.args.closure.now.nodes)
    (omega (arith, c.loop-k-test.true, c.len-k-end.ensures.len)) c.requires.room

pub overflow_add-o : goal.overflow_add-o
overflow_add-o c =
    let next = oracles-next c.args.closure.now.nodes c.loop-k.k _ _ _ _ c.loop-k.invariant.1
    c.from-o.ensures c.is_temporal.ensures c.node-node.ensures.node in
    omega (
      arith,
      next,
      oracles-few c.args.closure.now.nodes (c.loop-k.k + 1),
      c.loop-k-test.true,
      c.len-k-end.ensures.len,
      c.len-k-end.ensures.few,
    )

pub loop-k-preserved : goal.loop-k-preserved
loop-k-preserved c = (
  adds-next c.args.gates.now.first _ c.args.gates.now.ands _
      (promise_at c.args.places.now c.args.closure.now.nodes (literal_at c.args.values.now))
      c.loop-k.k _ c.loop-k.constraints _ c.loop-k.invariant.0 c.loop-k.invariant.2
      (promise-is c.args.places.now c.args.closure.now.nodes (literal_at c.args.values.now)
      c.loop-k.k _ _ c.loop-k.invariant.1 c.node-node.ensures.node) _ _
      c.in_ok-add_promise.ensures.added,
  oracles-next c.args.closure.now.nodes c.loop-k.k _ _ _ _ c.loop-k.invariant.1
      c.from-o.ensures c.is_temporal.ensures c.node-node.ensures.node,
  c.in_ok-add_promise.ensures.first ∙ c.loop-k.invariant.2,
)
