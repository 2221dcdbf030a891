use Rattle.std.proofs.Common.{take}
use Rattle.hy_base.specs.Pieces.{joined}
use Rattle.hy_base.specs.Sink.{KeepsSink, GivesWhole}
use Rattle.hy_base.proofs.writing.write_pieces.Given as goal

-- the pieces so far were given
abbrev pub invariant-loop-piece : goal.invariant-loop-piece
invariant-loop-piece g l = record {
  keeps : KeepsSink g.O.Sink l.initial.sink l.sink;
  gives : GivesWhole g.O.Sink l.initial.sink l.sink (joined (take l.piece-index l.pieces));
}
