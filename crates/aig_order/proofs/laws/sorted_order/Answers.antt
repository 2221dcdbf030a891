use Rattle.aig_order.proofs.Sorted as sorted
use Rattle.aig_order.proofs.laws.sorted_order.Goals as goal

pub returns : goal.returns
returns c = sorted.sorted-order
