use Rattle.hy_bits.proofs.RowOperations.{AreOred}
use Rattle.hy_bits.proofs.bit_row.BitRow.union.Given as goal

abbrev pub invariant-loop-j : goal.invariant-loop-j
invariant-loop-j g l = AreOred l.initial.words l.other-inside.words l.j l.words
