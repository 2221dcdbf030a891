use Rattle.sat_core.proofs.Stamping.{none-early}
use Rattle.std.proofs.Common.{◌+◌, arith}
use Rattle.sat_core.proofs.marks.Marks.forget.Goals as goal

pub returns : goal.returns
returns c = none-early (c.self.inside.today + 1) c.self.inside.today c.self.inside.stamps.items
    (omega arith) c.self.invariant.1
