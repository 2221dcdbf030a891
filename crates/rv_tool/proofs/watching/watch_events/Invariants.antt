use Rattle.rv_core.specs.Seen.{held}
use Rattle.rv_tool.specs.Watching.{count_left}
use Rattle.rv_tool.proofs.EventSteps.{Passed}
use Rattle.rv_tool.proofs.watching.watch_events.Given as goal

abbrev pub invariant-loop-placed : goal.invariant-loop-placed
invariant-loop-placed g l = Passed l.fn.source l.source (held l.fn.rv) (held l.rv)

abbrev pub decreases-loop-placed : goal.decreases-loop-placed
decreases-loop-placed g l = count_left l.source
