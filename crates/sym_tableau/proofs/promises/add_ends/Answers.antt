use Rattle.std.proofs.Common.{length, ◌∙◌, ap, arith}
use Rattle.aig_net.specs.Nets.{literal_at}
use Rattle.sym_tableau.specs.Oracles.{end_of}
use Rattle.sym_tableau.specs.Places.{end_at}
use Rattle.sym_tableau.proofs.Stepping.{adds-next, adds-room}
use Rattle.sym_tableau.proofs.promises.add_ends.Goals as goal

pub add_end-requires-clause-room : goal.add_end-requires-clause-room
add_end-requires-clause-room c =
    adds-room c.args.gates.now.first _ c.args.gates.now.ands _
    (end_at c.args.closure.now.nodes (literal_at c.args.values.now)) c.loop-k.k _ _ _
    c.loop-k.invariant.0 c.loop-k.invariant.1
    (ap (end_of (literal_at c.args.values.now) c.loop-k.k) c.node-node.ensures.node)
    (length c.args.closure.now.nodes)
    (omega (arith, c.loop-k-test.true, c.len-k-end.ensures.len)) c.requires.room

pub loop-k-preserved : goal.loop-k-preserved
loop-k-preserved c = (
  adds-next c.args.gates.now.first _ c.args.gates.now.ands _
      (end_at c.args.closure.now.nodes (literal_at c.args.values.now)) c.loop-k.k _
      c.loop-k.fairs _ c.loop-k.invariant.0 c.loop-k.invariant.1
      (ap (end_of (literal_at c.args.values.now) c.loop-k.k) c.node-node.ensures.node) _ _
      c.in_ok-add_end.ensures.added,
  c.in_ok-add_end.ensures.first ∙ c.loop-k.invariant.1,
)
