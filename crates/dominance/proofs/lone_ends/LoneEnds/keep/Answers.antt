use Rattle.std.proofs.Common.{sym, subst, List, arith}
use Rattle.dominance.specs.declared.lone_ends.LoneEnd.{LoneEnd}
use Rattle.dominance.specs.LoneEnds.{AreLoneEnds}
use Rattle.dominance.proofs.KeptEnds.{ends-kept}
use Rattle.dominance.proofs.lone_ends.LoneEnds.keep.Goals as goal

pub returns : goal.returns
returns c m column are is =
    let P : List LoneEnd → Type 0 = AreLoneEnds m column in
    subst P (sym c.set.ensures)
    (ends-kept m column c.args.self.now.ends c.args.at c.args.q c.args.end (omega arith) are is)
