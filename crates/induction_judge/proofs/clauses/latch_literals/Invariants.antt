use Rattle.std.proofs.Common.{length}
use Rattle.induction_judge.proofs.Latches.{AreRead}
use Rattle.induction_judge.proofs.clauses.latch_literals.Given as goal

abbrev pub invariant-loop-word : goal.invariant-loop-word
invariant-loop-word l = AreRead l.latches l.text l.left l.literals

abbrev pub decreases-loop-word : goal.decreases-loop-word
decreases-loop-word l = length l.left
