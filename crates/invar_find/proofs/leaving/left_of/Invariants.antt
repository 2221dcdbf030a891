use Rattle.invar_find.proofs.Leavings.{IsLeaving}
use Rattle.invar_find.proofs.leaving.left_of.Given as goal

abbrev pub invariant-loop-fact : goal.invariant-loop-fact
invariant-loop-fact l = IsLeaving l.seen l.fact-items l.fact-index l.place l.left
