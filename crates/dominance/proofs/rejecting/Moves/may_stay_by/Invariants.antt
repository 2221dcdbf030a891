use Rattle.dominance.proofs.rejecting.Moves.may_stay_by.Given as goal

abbrev pub invariant-loop-k : goal.invariant-loop-k
invariant-loop-k g l = Unit {0}
