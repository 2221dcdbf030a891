use Rattle.rv_tool.proofs.Settled.{rv_settled}
use Rattle.rv_tool.proofs.laws.settled.Goals as goal

pub returns : goal.returns
returns c = rv_settled
