use Rattle.fair_search.proofs.Settling.{done-step}
use Rattle.fair_search.proofs.component.settle.Goals as goal

pub loop-v-preserved : goal.loop-v-preserved
loop-v-preserved c =
    rw c.set.ensures
    (done-step c.args.nodes.now c.loop-v.v-index c.args.rank c.args.places.now c.loop-v.places
    c.loop-v-test.true c.requires.made c.requires.seen c.loop-v.invariant)
