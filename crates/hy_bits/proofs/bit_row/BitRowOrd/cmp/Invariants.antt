use Rattle.std.proofs.Common.{◌≤◌}
use Rattle.hy_bits.proofs.RowOperations.{AlikeFrom}
use Rattle.hy_bits.proofs.bit_row.BitRowOrd.cmp.Given as goal

abbrev pub invariant-loop-j : goal.invariant-loop-j
invariant-loop-j g l = (l.j ≤ g.row.W) × AlikeFrom l.self-inside.words l.other-inside.words l.j

abbrev pub decreases-loop-j : goal.decreases-loop-j
decreases-loop-j g l = l.j
