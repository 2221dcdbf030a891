use Rattle.std.proofs.Common.{◌++◌, sym, ap, ◌∙◌}
use Rattle.hy_base.specs.Rows.{listed}
use Rattle.aig_net.proofs.Copying.{one_item}
use Rattle.wit_lasso.specs.FormulaNets.{copy_signal}
use Rattle.wit_lasso.proofs.Letters.{got}
use Rattle.formula_nets.proofs.Copied.{copy_new}
use Rattle.formula_nets.proofs.safe_nets.copy_signals.Goals as goal

pub push-requires-clause-new : goal.push-requires-clause-new
push-requires-clause-new c =
    copy_new c.args.n c.args.signals.now c.loop-c.made c.loop-i.i c.loop-c.c c.at-signal.result.now
    c.len-i-end.ensures.signals c.requires.own c.at-signal.ensures c.loop-c-test.true
    c.loop-c.invariant

pub loop-i-preserved : goal.loop-i-preserved
loop-i-preserved c =
    let (lt, at) = got c.args.signals.now c.loop-i.i c.at-signal.result.now c.at-signal.result.now
    c.at-signal.ensures in
    one_item c.args.n (copy_signal c.args.n) c.args.signals.now c.at-signal.result.now c.loop-i.made
    c.loop-c.made c.loop-i.i c.loop-c.c lt (sym at) c.loop-i.invariant
    (c.loop-c.invariant ∙ ap (λ x. x ++ listed 0 c.loop-c.c
    (λ k. copy_signal c.args.n k c.at-signal.result.now)) (sym c.loop-i.invariant))
    c.loop-c-test.false
    c.loop-c.auto.c-end
