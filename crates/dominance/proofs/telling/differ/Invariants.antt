use Rattle.dominance.proofs.telling.differ.Given as goal

abbrev pub invariant-loop-name : goal.invariant-loop-name
invariant-loop-name l = Unit {0}
