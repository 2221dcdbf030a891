use Rattle.strat_core.proofs.Judging.{denied}
use Rattle.strat_core.proofs.laws.one_verdict.Goals as goal

pub returns : goal.returns
returns c net strategy prefix body names m e n k a b traces runs one two =
    denied net strategy prefix body names m e n k a b traces runs one two
