use Rattle.std.proofs.Common.{◌≡◌, ◌≤◌, ◌+◌, ◌++◌, List, length}
use Rattle.hy_bits.specs.Letter.{Letter}
use Rattle.hy_text.proofs.ReadingWords.{SetsRead}
use Rattle.hy_text.proofs.words.read_sets.Given as goal

abbrev pub invariant-loop-set : goal.invariant-loop-set
invariant-loop-set l = record {
  read : SetsRead l.names l.most l.initial.letters l.text l.here l.sets l.letters;
  more : (more : List Letter) × (l.letters ≡ l.initial.letters ++ more);
  within : l.sets + length l.here ≤ length l.text;
}

abbrev pub decreases-loop-set : goal.decreases-loop-set
decreases-loop-set l = length l.here
