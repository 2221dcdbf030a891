use Rattle.std.proofs.Common.{ap, ◌∙◌, length, arith}
use Rattle.ltl_tableau.proofs.Drawing.{group-made, group-few, groups-filled, groups-empty}
use Rattle.ltl_tableau.proofs.draw.draw_groups.Goals as goal

pub fill-requires-clause-made : goal.fill-requires-clause-made
fill-requires-clause-made c = λ v h.
    omega (arith, group-made c.args.groups.now c.loop-group.group _ c.at.result.now c.at.ensures c.requires.made v h, ap length c.loop-group.invariant.nodes)

pub fill-requires-clause-few : goal.fill-requires-clause-few
fill-requires-clause-few c = group-few c.args.groups.now c.loop-group.group _ c.at.result.now c.at.ensures c.requires.few

pub loop-group-preserved : goal.loop-group-preserved
loop-group-preserved c =
    let inv = c.loop-group.invariant in
    let done = c.in_ok-fill.ensures in
    record {
      nodes = done.nodes ∙ inv.nodes;
      count = done.count ∙ inv.count;
      filled = groups-filled c.args.groups.now c.loop-group.graph c.fill.new.graph c.loop-group.group c.at.result.now c.at.ensures done.filled done.others inv.filled;
      empty = groups-empty c.loop-group.graph c.fill.new.graph c.loop-group.group done.others inv.empty;
    }
