use Rattle.std.proofs.Common.{◌+◌, ◌<◌, ◌^◌}
use Rattle.std.specs.Option.{option_copied}
use Rattle.hy_finite.specs.LinesLeft.{left_lines, left_len}
use Rattle.hy_finite.specs.Remaining.{remaining}
use Rattle.hy_finite.proofs.Collecting.{Checked}
use Rattle.hy_finite.proofs.lines.EventLines.check.Given as goal

abbrev pub invariant-loop-left : goal.invariant-loop-left
invariant-loop-left l = record {
  checked : Checked (remaining l.self).first (remaining l.self).lines l.line (left_lines (option_copied l.left)) l.is_long;
  countable : l.line + left_len (option_copied l.left) < 2 ^ 32;
}

abbrev pub decreases-loop-left : goal.decreases-loop-left
decreases-loop-left l = left_len (option_copied l.left)
