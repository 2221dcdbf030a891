use Rattle.hy_bits.proofs.RowOperations.{members-zeros}
use Rattle.hy_bits.proofs.bit_row.BitRow.empty.Goals as goal

pub returns : goal.returns
returns g c = members-zeros g.row.W
