use Rattle.std.proofs.Common.{[], ◌∷◌}
use Rattle.rv_watch.specs.Input.{input_name}
use Rattle.rv_watch.specs.Runs.{worded, of_command}
use Rattle.rv_watch.proofs.Leading.{receives-more}
use Rattle.rv_watch.proofs.Running.{unworded-right}
use Rattle.rv_watch.proofs.runs.watch.Goals as goal

pub returns-in-Ok-order_in-clause-right : goal.returns-in-Ok-order_in-clause-right
returns-in-Ok-order_in-clause-right g c =
    let order = c.in-Ok-order_in.order in
    let asked = c.in-Ok-order_in.ensures.some in
    let (said, follows, heard) = c.monitor-due.ensures.follows in
    rw c.finish.ensures.answer (
      _,
      _,
      said,
      order.file.now ∷ input_name ∷ [],
      worded order.question order.file.now said _ asked follows,
      c.write_answer-answer.ensures.written,
      of_command order.question order.file.now _ asked,
      receives-more g.E.Sink _ _ _ said _ heard c.finish.ensures.err,
    )

pub returns-clause-right : goal.returns-clause-right
returns-clause-right g c =
    unworded-right g.S.Shelf g.O.Sink g.E.Sink _ _ _ _ _ c.in-Err.refusal _ c.in-Err.ensures.none c.finish-in-Err.ensures.answer
    c.finish-in-Err.ensures.err
