use Rattle.std.proofs.Common.{length, arith}
use Rattle.aig_order.proofs.Takes.{definer_small}
use Rattle.aig_order.proofs.Reach.{sides, visited_long}
use Rattle.aig_order.proofs.cycle.visit_sides.Goals as goal

pub visit-requires : goal.visit-requires
visit-requires c =
    definer_small c.args.gates.now c.requires.set.top (length c.args.gates.now) c.args.definers.now _ (length c.args.reach.now.seen) c.definer.result c.requires.set.definers_are c.definer.ensures (omega (arith, c.requires.long))

pub visit-requires-2 : goal.visit-requires-2
visit-requires-2 c =
    definer_small c.args.gates.now c.requires.set.top (length c.args.gates.now) c.args.definers.now _ (length c.visit.new.reach.seen) c.definer-2.result c.requires.set.definers_are c.definer-2.ensures
    (omega (arith, c.requires.long, visited_long c.definer.result c.args.reach.now.seen c.visit.new.reach.seen c.args.reach.now.found c.visit.new.reach.found c.in_ok-visit.ensures))

pub returns : goal.returns
returns c =
    sides c.args.gates.now c.requires.set.top c.args.definers.now c.args.k c.definer.result c.definer-2.result c.args.reach.now.seen c.visit.new.reach.seen c.visit-2.new.reach.seen c.args.reach.now.found c.visit.new.reach.found c.visit-2.new.reach.found c.requires.set.definers_are c.definer.ensures c.definer-2.ensures c.in_ok-visit.ensures c.in_ok-visit-2.ensures
