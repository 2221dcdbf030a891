use Rattle.dominance.proofs.telling.are_apart.Given as goal

abbrev pub invariant-loop-i : goal.invariant-loop-i
invariant-loop-i l = Unit {0}
