use Rattle.std.proofs.Common.{◌-◌, length, drop, sym, subst, arith}
use Rattle.hy_bits.specs.Letter.{Letter}
use Rattle.aig_net.specs.declared.signals.Signal.{Signal}
use Rattle.aig_net.specs.Nets.{Below}
use Rattle.hy_base.specs.Rows.{row}
use Rattle.wit_lasso.specs.Seeing.{IsSeen}
use Rattle.wit_lasso.proofs.Letters.{got, small_name, seen-more, seen-none}
use Rattle.wit_lasso.proofs.seeing.letter_of.Goals as goal

pub loop-i-init : goal.loop-i-init
loop-i-init c =
    let P : Letter → Type 0 = IsSeen (drop c.len-i.result c.args.signals.now)
    (row c.args.values.now) in
    let long = c.len-i.ensures.len in
    subst P (sym c.empty-letter.ensures)
    (seen-none c.args.signals.now (row c.args.values.now) c.len-i.result c.requires.constant
    (omega (arith, long)))

pub loop-i-preserved : goal.loop-i-preserved
loop-i-preserved c =
    seen-more c.args.signals.now (row c.args.values.now) c.loop-i.i (c.loop-i.i - 1)
    c.at.result.now c.loop-i.letter c.with_signal-letter.result
    (omega (arith, c.loop-i-test.true)) c.at.ensures c.loop-i.invariant
    c.with_signal-letter.ensures

pub with_signal-letter-requires-clause-name : goal.with_signal-letter-requires-clause-name
with_signal-letter-requires-clause-name c =
    small_name c.args.signals.now (c.loop-i.i - 1) c.at.result.now c.len-i.ensures.signals
    c.at.ensures

pub with_signal-letter-requires-clause-within : goal.with_signal-letter-requires-clause-within
with_signal-letter-requires-clause-within c =
    let (lt, same) = got c.args.signals.now (c.loop-i.i - 1) c.at.result.now c.at.result.now
    c.at.ensures in
    let P : Signal → Type 0 = λ s. Below (length c.args.values.now) s.literal in
    subst P same (c.requires.within (c.loop-i.i - 1) c.at.result.now lt)
