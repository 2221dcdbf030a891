use Rattle.std.proofs.Common.{arith}
use Rattle.dominance.proofs.KeptEnds.{end-known}
use Rattle.dominance.proofs.lone_ends.LoneEnds.known.Goals as goal

pub returns : goal.returns
returns c m column are =
    end-known m column c.args.self.now.ends c.args.q c.at-known.result.now (omega arith)
    c.at-known.ensures c.args.at (omega arith) are
