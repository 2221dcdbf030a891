use Rattle.std.specs.Option.{option_copied}
use Rattle.hy_finite.specs.LinesLeft.{left_len}
use Rattle.hy_finite.specs.Remaining.{remaining}
use Rattle.hy_finite.proofs.Reaching.{Onward}
use Rattle.hy_finite.proofs.lines.EventLines.next_line.Given as goal

abbrev pub invariant-loop-self : goal.invariant-loop-self
invariant-loop-self l = Onward (remaining l.initial.self) (remaining l.self)

abbrev pub decreases-loop-self : goal.decreases-loop-self
decreases-loop-self l = left_len (option_copied l.self.left)
