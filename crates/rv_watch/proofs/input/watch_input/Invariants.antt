use Rattle.std.proofs.Common.{ℕ, List}
use Rattle.hy_base.specs.Shelf.{KeepsShelf}
use Rattle.hy_base.specs.Sink.{KeepsSink}
use Rattle.rv_core.specs.Held.{specs_of}
use Rattle.rv_core.specs.Seen.{held}
use Rattle.rv_watch.specs.At.{IsBehind, room}
use Rattle.rv_watch.specs.Input.{IsGiven}
use Rattle.rv_watch.proofs.input.watch_input.Given as goal

abbrev pub invariant-loop-front : goal.invariant-loop-front
invariant-loop-front g l = record {
  keeps_shelf : KeepsShelf g.S.Shelf l.fn.shelf l.shelf;
  keeps_err : KeepsSink g.E.Sink l.fn.err l.err;
  bytes : List ℕ;
  given : IsGiven g.S.Shelf l.fn.shelf bytes l.shelf;
  behind : IsBehind l.fn.terms (specs_of (held l.fn.rv)) g.E.Sink l.fn.err l.err l.watcher l.front bytes;
}

abbrev pub decreases-loop-front : goal.decreases-loop-front
decreases-loop-front g l = room l.watcher.lines l.front
