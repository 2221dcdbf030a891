use Rattle.aig_net.proofs.Copying.{one_item}
use Rattle.self_compose.proofs.copied.copies.Goals as goal

pub loop-item-preserved : goal.loop-item-preserved
loop-item-preserved g c =
    one_item _ _ _ c.item-item.result _ _ _ c.loop-c.c c.loop-item-test.true c.item-item.is
    c.loop-item.invariant
    c.loop-c.invariant c.loop-c-test.false c.loop-c.auto.c-end
