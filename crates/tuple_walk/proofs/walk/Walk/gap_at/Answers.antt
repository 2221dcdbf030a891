use Rattle.std.proofs.Common.{◌≡◌, length, true, slice_get, Some, sym, ap, ◌∙◌, arith}
use Rattle.hy_finite.specs.Traces.{Trace}
use Rattle.tuple_walk.specs.Places.{rests_of}
use Rattle.tuple_walk.specs.Serving.{sought_of}
use Rattle.tuple_walk.proofs.Coming.{not-marked, gap-serves}
use Rattle.tuple_walk.proofs.PairEnds.{some-letters}
use Rattle.tuple_walk.proofs.walk.Walk.gap_at.Goals as goal
use Rattle.tuple_walk.proofs.walk.Walk.gap_at.Goals.{else-given-i-via-then-given-i+else-is_empty, else-given-i-via-else-given-i}

pub returns-else-given-i-clause-serves : goal.returns-else-given-i-clause-serves
returns-else-given-i-clause-serves g c =
    let s = sought_of c.args.given.now in
    gap-serves c.args.self.now.lengths (rests_of c.args.spot.now) s.given
    (slice_get s.marks c.args.i ≡ Some true) c.gap.result
    (λ (marked, e). elim c.else-given-i.branch [
      | else-given-i-via-then-given-i+else-is_empty v ↦
          let some = some-letters s.given.1 (sym v.is_empty.ensures ∙ v.if-is_empty.false) in
          omega (arith, some, ap (λ (t : Trace). length t) e)
      | else-given-i-via-else-given-i v ↦ not-marked s.marks c.args.i v.if-given-i.false marked
    ]) c.gap.ensures.moved c.gap.ensures.way
