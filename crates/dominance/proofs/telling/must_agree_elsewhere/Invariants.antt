use Rattle.dominance.proofs.telling.must_agree_elsewhere.Given as goal

abbrev pub invariant-loop-j : goal.invariant-loop-j
invariant-loop-j g l = Unit {0}
