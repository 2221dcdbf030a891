use Rattle.std.proofs.Common.{◌≤◌, length}
use Rattle.hy_text.proofs.ReadingSets.{NamesRead}
use Rattle.hy_text.proofs.sets.read_members.Given as goal

abbrev pub invariant-loop-name : goal.invariant-loop-name
invariant-loop-name l = record {
  read : NamesRead l.names l.text l.here l.letter;
  within : length l.here ≤ length l.text;
}

abbrev pub decreases-loop-name : goal.decreases-loop-name
decreases-loop-name l = length l.here
