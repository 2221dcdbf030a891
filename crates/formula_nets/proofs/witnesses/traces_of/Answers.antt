use Rattle.std.proofs.Common.{sym, ◌∙◌, subst}
use Rattle.std.proofs.lemmas.List.{get_or_default}
use Rattle.aig_net.specs.declared.run.Run.{Run}
use Rattle.aig_net.specs.declared.run.ValueLasso.{ValueLasso}
use Rattle.aig_net.specs.Simulations.{IsExecutionOf}
use Rattle.wit_lasso.specs.Unfoldings.{no_run}
use Rattle.formula_nets.proofs.Witnessing.{traces_more}
use Rattle.formula_nets.proofs.witnesses.traces_of.Goals as goal

pub visible-requires-clause-run : goal.visible-requires-clause-run
visible-requires-clause-run c =
    let P : Run → Type 0 = λ r. (values : ValueLasso) × IsExecutionOf c.args.net.now r values in
    subst P (get_or_default c.args.runs.now c.loop-run.run-index no_run c.run-item.result c.loop-run-test.true ∙ sym c.run-item.is)
    (c.requires.runs c.loop-run.run-index c.loop-run-test.true)

pub loop-run-preserved : goal.loop-run-preserved
loop-run-preserved c =
    traces_more c.args.net.now c.args.signals.now c.args.runs.now c.loop-run.run-index
    c.loop-run.traces c.push.new.self c.run-item.result c.in_ok-visible.field-0
    c.loop-run-test.true c.run-item.is c.in_ok-visible.ensures c.loop-run.invariant
    c.in_ok-push.ensures.added
