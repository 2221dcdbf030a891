use Rattle.hy_finite.proofs.NameWords.{NamesSoFar}
use Rattle.hy_finite.proofs.meaning.names_word.Given as goal

abbrev pub invariant-loop-i : goal.invariant-loop-i
invariant-loop-i l = NamesSoFar l.trace l.name l.from l.i l.word
