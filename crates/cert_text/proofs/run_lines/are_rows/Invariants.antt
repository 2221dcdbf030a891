use Rattle.std.proofs.Common.{◌↔◌, length}
use Rattle.hy_text.specs.Cuts.{cut_at}
use Rattle.cert_text.specs.RunLines.{SaysRow}
use Rattle.cert_text.proofs.WordsRead.{EachSpeaks}
use Rattle.cert_text.proofs.run_lines.are_rows.Given as goal

-- What is left says rows where all does.
abbrev pub invariant-loop-row : goal.invariant-loop-row
invariant-loop-row l =
    EachSpeaks SaysRow (cut_at 59 l.text) ↔ EachSpeaks SaysRow (cut_at 59 l.left)

abbrev pub decreases-loop-row : goal.decreases-loop-row
decreases-loop-row l = length l.left
