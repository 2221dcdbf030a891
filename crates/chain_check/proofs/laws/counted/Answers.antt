use Rattle.chain_check.proofs.laws.counted.Goals as goal
use Rattle.chain_check.proofs.Counting.{counted-rows}

pub returns : goal.returns
returns c = counted-rows
