use Rattle.std.proofs.Common.{length, arith}
use Rattle.aig_order.proofs.Takes.{definer_small, users_long, users_more}
use Rattle.aig_order.proofs.taking.users.Goals as goal

pub add_user-requires : goal.add_user-requires
add_user-requires c = definer_small c.args.gates.now c.requires.top (length c.args.gates.now) c.args.definers.now _ (length c.loop-k.users.items) c.definer.result c.requires.definers_are c.definer.ensures (omega (arith, c.loop-k.invariant.long))

pub add_user-requires-in-loop-k : goal.add_user-requires-in-loop-k
add_user-requires-in-loop-k c = definer_small c.args.gates.now c.requires.top (length c.args.gates.now) c.args.definers.now _ (length c.add_user.new.users.items) c.definer-in-loop-k.result c.requires.definers_are c.definer-in-loop-k.ensures (omega (arith, c.loop-k.invariant.long, users_long c.definer.result c.loop-k.k c.loop-k.users.items c.add_user.new.users.items c.in_ok-add_user.ensures))

pub loop-k-preserved : goal.loop-k-preserved
loop-k-preserved c =
    users_more c.args.gates.now c.requires.top c.loop-k.k c.args.definers.now c.loop-k.users.items c.add_user.new.users.items c.add_user-in-loop-k.new.users.items c.definer.result c.definer-in-loop-k.result c.requires.definers_are c.loop-k.invariant c.loop-k-test.true c.definer.ensures c.definer-in-loop-k.ensures c.in_ok-add_user.ensures c.in_ok-add_user-2.ensures
