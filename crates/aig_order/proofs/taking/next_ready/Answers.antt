use Rattle.aig_order.proofs.Takes.{popped_none}
use Rattle.aig_order.proofs.taking.next_ready.Goals as goal

pub returns : goal.returns
returns c = popped_none c.args.taken.now c.args.ready.now c.loop-k.ready c.pop.new.self c.loop-k.invariant c.in_default.ensures.none c.in_default.ensures.empty
