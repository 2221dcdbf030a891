use Rattle.aig_net.specs.Simulations.{IsExecutionOf}
use Rattle.wit_lasso.proofs.Letters.{trace-of}
use Rattle.wit_lasso.proofs.seeing.visible.Goals as goal

pub visible_in-requires : goal.visible_in-requires
visible_in-requires c =
    let is : IsExecutionOf c.args.net.now c.args.run.now c.in-Some.values =
    rw c.in-Some.is at c.in_ok-values.ensures.some in
    (c.args.net.now, c.args.run.now, is, c.requires.signals)

pub returns : goal.returns
returns c =
    let is : IsExecutionOf c.args.net.now c.args.run.now c.in-Some.values =
    rw c.in-Some.is at c.in_ok-values.ensures.some in
    trace-of c.args.net.now c.args.signals.now c.args.run.now c.in-Some.values is
    c.visible_in.result c.visible_in.ensures.normal c.visible_in.ensures.shows
