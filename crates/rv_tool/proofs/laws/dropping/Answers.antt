use Rattle.rv_tool.proofs.Outcomes.{dropping-agrees}
use Rattle.rv_tool.proofs.laws.dropping.Goals as goal

pub returns : goal.returns
returns c rule drop other specs events a b one two =
    dropping-agrees rule drop other specs events a b one two
