use Rattle.hy_text.proofs.Cuts.{cut_here, apart_more, cut_nowhere}
use Rattle.hy_text.proofs.cutting.cut.Goals as goal

pub returns-then-b-byte-clause-pieces : goal.returns-then-b-byte-clause-pieces
returns-then-b-byte-clause-pieces c =
    cut_here c.args.byte c.args.text.now c.split_at.result.0.now c.split_at.result.1.now
    c.split_at-then-b-byte.result.1.now c.loop-i.i c.loop-i-test.true c.loop-i.invariant
    c.if-b-byte.true c.split_at.ensures.front c.split_at.ensures.back
    c.split_at-then-b-byte.ensures.back

pub loop-i-preserved : goal.loop-i-preserved
loop-i-preserved c =
    apart_more c.args.byte c.args.text.now c.loop-i.i c.loop-i-test.true c.loop-i.invariant
    c.if-b-byte.false

pub returns-clause-pieces : goal.returns-clause-pieces
returns-clause-pieces c =
    cut_nowhere c.args.byte c.args.text.now c.loop-i.i c.loop-i-test.false c.loop-i.invariant
