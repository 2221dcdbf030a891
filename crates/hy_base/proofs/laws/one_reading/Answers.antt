use Rattle.hy_base.proofs.Recorded.{texts_once}
use Rattle.hy_base.proofs.laws.one_reading.Goals as goal

pub returns : goal.returns
returns c = texts_once
