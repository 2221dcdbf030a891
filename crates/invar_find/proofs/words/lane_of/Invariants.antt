use Rattle.std.proofs.Common.{◌≡◌, length}
use Rattle.invar_find.proofs.words.lane_of.Given as goal

abbrev pub invariant-loop-i : goal.invariant-loop-i
invariant-loop-i l = length l.values.items ≡ l.i
