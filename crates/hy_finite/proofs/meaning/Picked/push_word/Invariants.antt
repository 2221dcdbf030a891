use Rattle.hy_finite.specs.Rows.{IsRepeated}
use Rattle.hy_finite.proofs.meaning.Picked.push_word.Given as goal

abbrev pub invariant-loop-k : goal.invariant-loop-k
invariant-loop-k l = IsRepeated l.word l._k l.initial.rows l.rows
