use Rattle.rv_tool.specs.Watching.{AreLeft}
use Rattle.rv_tool.proofs.EventSteps.{or-fault}
use Rattle.rv_tool.proofs.FirstSpecs.{monitored-outcome}
use Rattle.rv_tool.proofs.monitoring.judge.Goals as goal

pub returns-in-Ok : goal.returns-in-Ok
returns-in-Ok c =
    or-fault c.args.source.now c.watch.result
    (λ come. monitored-outcome c.args.lengths c.args.drop c.args.specs.now c.as_slice.result.now (AreLeft c.args.source.now) _ _ c.as_slice.ensures
    c.in-Ok.ensures.universal c.in-Ok.ensures.taken c.in-Ok.ensures.specs come)
    (rw (c.in-Ok.ensures.rule, c.in-Ok.ensures.drop) at c.watch.ensures)
