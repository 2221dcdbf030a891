use Rattle.std.proofs.Common.{◌+◌, ◌<◌, ◌^◌, length}
use Rattle.std.specs.Option.{option_copied}
use Rattle.hy_text.specs.Lines.{lines_of, left_lines, left_len}
use Rattle.hy_lasso.proofs.Gathering.{Gathered}
use Rattle.hy_lasso.proofs.read.read_lassos.Given as goal

abbrev pub invariant-loop-left : goal.invariant-loop-left
invariant-loop-left l = record {
  gathered : Gathered l.names (lines_of l.bytes) l.line (left_lines (option_copied l.left)) l.list;
  few : length l.list < l.line;
  countable : l.line + left_len (option_copied l.left) < 2 ^ 32;
}

abbrev pub decreases-loop-left : goal.decreases-loop-left
decreases-loop-left l = left_len (option_copied l.left)
