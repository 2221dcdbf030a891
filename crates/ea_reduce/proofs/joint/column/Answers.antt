use Rattle.ea_reduce.proofs.Adding.{column-more}
use Rattle.ea_reduce.proofs.joint.column.Goals as goal

pub loop-row-preserved : goal.loop-row-preserved
loop-row-preserved c =
    column-more c.args.v c.args.rows.now c.as_slice-row-items.result.now c.loop-row.row-index c.row-item.result c.at.result.now c.loop-row.letters c.push.new.self
    c.as_slice-row-items.ensures c.loop-row-test.true c.row-item.is (rw c.from.ensures at c.at.ensures) c.loop-row.invariant c.in_ok-push.ensures.added
