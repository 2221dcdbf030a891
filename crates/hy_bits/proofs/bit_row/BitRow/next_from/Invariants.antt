use Rattle.std.proofs.Common.{◌≤◌, ◌*◌, ◌-◌}
use Rattle.hy_bits.specs.Rows.{members}
use Rattle.hy_bits.specs.Sets.{HasNone}
use Rattle.hy_bits.proofs.bit_row.BitRow.next_from.Given as goal

abbrev pub invariant-loop-i : goal.invariant-loop-i
invariant-loop-i g l = (l.from ≤ l.i) × HasNone (members l.self-inside.words) l.from l.i

abbrev pub decreases-loop-i : goal.decreases-loop-i
decreases-loop-i g l = 64 * g.row.W - l.i
