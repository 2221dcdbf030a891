use Rattle.std.proofs.Common.{length}
use Rattle.hy_finite.specs.EventFiles.{lines_of}
use Rattle.hy_finite.specs.Remaining.{remaining}
use Rattle.hy_finite.proofs.Collecting.{Collected}
use Rattle.hy_finite.proofs.file.read_events.Given as goal

abbrev pub invariant-loop-letters : goal.invariant-loop-letters
invariant-loop-letters l = Collected l.names (lines_of l.bytes) (remaining l.lines) l.events

abbrev pub decreases-loop-letters : goal.decreases-loop-letters
decreases-loop-letters l = length (remaining l.lines).lines
