use Rattle.std.proofs.Common.{length}
use Rattle.cert_text.proofs.Rows.{AreRead}
use Rattle.cert_text.proofs.run_lines.read_rows.Given as goal

abbrev pub invariant-loop-piece : goal.invariant-loop-piece
invariant-loop-piece l = AreRead l.text l.left l.rows

abbrev pub decreases-loop-piece : goal.decreases-loop-piece
decreases-loop-piece l = length l.left
