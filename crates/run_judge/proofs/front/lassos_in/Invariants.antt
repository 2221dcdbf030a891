use Rattle.std.proofs.Common.{◌+◌, ◌≤◌, length}
use Rattle.run_judge.proofs.FrontLassos.{AreGathered}
use Rattle.run_judge.proofs.front.lassos_in.Given as goal

abbrev pub invariant-loop-rest : goal.invariant-loop-rest
invariant-loop-rest l = record {
  gathered : AreGathered l.names l.text l.left l.list;
  countable : length l.list + length l.left ≤ length l.text;
}

abbrev pub decreases-loop-rest : goal.decreases-loop-rest
decreases-loop-rest l = length l.left
