use Rattle.std.proofs.Common.{sym, arith}
use Rattle.std.proofs.lemmas.Option.{get_or_from_slice_get}
use Rattle.hy_finite.proofs.RowSteps.{applying-more}
use Rattle.hy_finite.proofs.rows.apply.Goals as goal

pub loop-k-preserved : goal.loop-k-preserved
loop-k-preserved c =
    let left = get_or_from_slice_get c.loop-k.rows _ c.at-left.result.now 0 c.at-left.ensures in
    let right = get_or_from_slice_get c.loop-k.rows _ c.at.result.now 0 c.at.ensures in
    applying-more c.args.rule c.args.rows.now c.loop-k.rows c.args.base c.args.other c.loop-k.k
    c.loop-k.carry c.loop-k.invariant c.at-left.result.now c.at.result.now c.word-word.result
    c.requires.order (omega arith) (sym left) (sym right) c.word-word.ensures c.carry-carry.result
    c.carry-carry.ensures c.set.new.self c.set.ensures
