use Rattle.std.proofs.Common.{◌+◌, ℕ, ◌≤◌, List, length}
use Rattle.hy_base.specs.Sink.{KeepsSink}
use Rattle.rv_core.specs.Endings.{Spec}
use Rattle.rv_watch.specs.At.{IsBehind, IsPassing, room}
use Rattle.rv_watch.proofs.input.feed.Given as goal

abbrev pub invariant-loop-line : goal.invariant-loop-line
invariant-loop-line g l = record {
  keeps : KeepsSink g.E.Sink l.fn.err l.err;
  passing : (specs : List Spec) (from : g.row.E.Denot) (bytes : List ℕ)
      → IsBehind l.fn.terms specs g.E.Sink from l.fn.err l.fn.watcher l.fn.front bytes
      → IsPassing l.fn.terms specs g.E.Sink from l.err l.watcher l.front bytes l.fn.piece l.left;
  room : room l.watcher.lines l.front + length l.fn.piece ≤ room l.fn.watcher.lines l.fn.front + length l.left;
}

abbrev pub decreases-loop-line : goal.decreases-loop-line
decreases-loop-line g l = length l.left
