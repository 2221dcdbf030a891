use Rattle.std.proofs.Common.{◌+◌, arith}
use Rattle.sym_tableau.proofs.Counting.{oracles-few, oracles-next}
use Rattle.sym_tableau.proofs.places.Places.of.Goals as goal

pub overflow_add-oracles : goal.overflow_add-oracles
overflow_add-oracles c =
    let next = oracles-next c.args.closure.now.nodes c.loop-k.k _ _ _ _ c.loop-k.invariant
    c.from-oracles.ensures c.is_temporal.ensures c.node.ensures.node in
    omega (
      arith,
      next,
      oracles-few c.args.closure.now.nodes (c.loop-k.k + 1),
      c.loop-k-test.true,
      c.len-k-end.ensures.len,
      c.len-k-end.ensures.few,
    )

pub loop-k-preserved : goal.loop-k-preserved
loop-k-preserved c =
    oracles-next c.args.closure.now.nodes c.loop-k.k _ _ _ _ c.loop-k.invariant
    c.from-oracles.ensures c.is_temporal.ensures c.node.ensures.node
