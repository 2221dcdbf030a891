use Rattle.std.proofs.Common.{◌≤◌, arith, below_more}
use Rattle.std.specs.Prelude.{slice_index}
use Rattle.aig_order.proofs.Ranks.{above_free}
use Rattle.aig_order.proofs.cycle.first_level.Goals as goal

pub loop-k-preserved : goal.loop-k-preserved
loop-k-preserved c =
    let least : c.least_above.result ≤ slice_index c.args.ranks.now c.loop-k.k = omega (arith, c.if-rank-least_above.false, c.rank.ensures.value) in
    below_more _ _ c.loop-k.invariant (above_free c.args.gates.now c.args.ranks.now (c.are_ranks.ensures c.if-not-are_ranks.false) c.loop-k.k c.least_above.result c.least_above.ensures least)
