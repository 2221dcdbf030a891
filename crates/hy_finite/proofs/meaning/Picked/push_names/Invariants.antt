use Rattle.hy_finite.proofs.NameWords.{NamesFilled}
use Rattle.hy_finite.proofs.meaning.Picked.push_names.Given as goal

abbrev pub invariant-loop-k : goal.invariant-loop-k
invariant-loop-k l = NamesFilled l.trace l.a.name l.self.positions l.initial.rows l.rows l.k
