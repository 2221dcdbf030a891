use Rattle.std.proofs.Common.{◌≤◌, ◌^◌, length}
use Rattle.hy_text.specs.Cuts.{cut_at}
use Rattle.cert_text.proofs.MembersRead.{AreRead}
use Rattle.cert_text.proofs.NumbersRead.{AscendLeft}
use Rattle.cert_text.proofs.members.read_ascending.Given as goal

-- What is left says what all does, from the least number on that may come, and the list has what
-- the words before it say.
abbrev pub invariant-loop-piece : goal.invariant-loop-piece
invariant-loop-piece l = record {
  left : AscendLeft (cut_at 44 l.text) l.least (cut_at 44 l.left);
  least : l.least ≤ 10 ^ 10;
  read : AreRead (cut_at 44 l.text) l.list (cut_at 44 l.left);
}

abbrev pub decreases-loop-piece : goal.decreases-loop-piece
decreases-loop-piece l = length l.left
