use Rattle.std.proofs.Common.{◌≤◌, ◌+◌, [], length}
use Rattle.hy_text.proofs.ReadingWords.{SetsRead}
use Rattle.hy_text.proofs.words.skip_word.Given as goal

abbrev pub invariant-loop-set : goal.invariant-loop-set
invariant-loop-set l = record {
  read : SetsRead l.names 0 [] l.text l.here l.sets [];
  within : l.sets + length l.here ≤ length l.text;
}

abbrev pub decreases-loop-set : goal.decreases-loop-set
decreases-loop-set l = length l.here
