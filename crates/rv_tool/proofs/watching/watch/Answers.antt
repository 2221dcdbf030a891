use Rattle.std.proofs.Common.{Ok, Err, inl, inr, ap, ◌∙◌}
use Rattle.rv_core.specs.Seen.{held}
use Rattle.hy_run.specs.Refusals.{file_refusal}
use Rattle.rv_tool.proofs.EventSteps.{watched-comes}
use Rattle.rv_tool.proofs.watching.watch.Goals as goal

pub returns-in-Ok : goal.returns-in-Ok
returns-in-Ok c =
    let good = c.watch_on-watched.ensures.read (Ok tt) c.in-Ok.ensures in
    inl (
      good,
      watched-comes (held c.args.rv.now) (held c.watch_on-watched.new.rv) c.args.source.now c.watch_on-watched.result c.watched_answer.result
          c.watch_on-watched.ensures.specs c.watch_on-watched.ensures.rule c.watch_on-watched.ensures.dropping (c.watch_on-watched.ensures.watched good)
          (c.watched_answer.ensures c.args.source.now),
    )

pub returns-in-Err : goal.returns-in-Err
returns-in-Err c =
    let fault = c.in-Err.fault in
    inr (fault, c.watch_on-watched.ensures.read (Err fault) c.in-Err.ensures, ap Err (c.file_refusal.ensures ∙ ap (file_refusal 1) c.from.ensures))
