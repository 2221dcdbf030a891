use Rattle.std.proofs.Common.{◌∙◌, []}
use Rattle.aig_order.proofs.Takes.{waits_is, start_readied}
use Rattle.aig_order.proofs.taking.first_ready.Goals as goal

pub loop-k-preserved : goal.loop-k-preserved
loop-k-preserved c =
    let set = c.requires in
    let held = c.waits-held.ensures ∙ waits_is c.args.gates.now set.top c.args.definers.now set.definers_are [] c.in_ok-taken.taken (λ k lt. c.in_ok-taken.ensures.none k) c.loop-k.k in
    start_readied c.args.gates.now c.loop-k.k c.waits-held.result c.loop-k.ready c.ready_unless.new.ready c.loop-k-test.true set.few held c.in_ok-ready_unless.ensures c.loop-k.invariant.sound c.loop-k.invariant.full
