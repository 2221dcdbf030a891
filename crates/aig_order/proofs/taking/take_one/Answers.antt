use Rattle.aig_order.proofs.Takes.{user_readied}
use Rattle.aig_order.proofs.taking.take_one.Goals as goal

pub loop-u-preserved : goal.loop-u-preserved
loop-u-preserved c = record {
  order = c.loop-u.invariant.order;
  readied = user_readied c.args.gates.now c.requires.set.top c.args.definers.now c.requires.set.definers_are c.requires.set.few c.args.users.now c.loop-u.u-index c.loop-u.taking.order c.loop-u.taking.taken c.loop-u.taking.ready c.ready_unless.new.ready c.is_held-held.result c.loop-u.invariant.readied c.loop-u-test.true c.is_held-held.ensures c.in_ok-ready_unless.ensures;
}
