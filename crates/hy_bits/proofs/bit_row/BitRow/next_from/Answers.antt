use Rattle.std.proofs.Common.{◌+◌, Some, None, arith, subst, w64}
use Rattle.std.specs.Int.{trailing_zeros}
use Rattle.hy_bits.specs.Sets.{NumberSet, IsNext}
use Rattle.hy_bits.proofs.RowOperations.{rest, next-found, none-past, none-left}
use Rattle.hy_bits.proofs.bit_row.BitRow.next_from.Goals as goal

pub returns-then-rest-ne0 : goal.returns-then-rest-ne0
returns-then-rest-ne0 g c =
    let ws = c.self.inside.words in
    let (le, none) = c.loop-i.invariant in
    let P : NumberSet → Type 0 = λ s. IsNext s c.args.from (Some (c.loop-i.i + trailing_zeros w64 (rest ws c.loop-i.i))) in
    subst P c.self.view_is (next-found ws c.self.invariant.2 c.args.from c.loop-i.i le none (omega (arith, c.if-rest-ne0.true)))

pub loop-i-preserved : goal.loop-i-preserved
loop-i-preserved g c =
    let (le, none) = c.loop-i.invariant in
    (omega arith, none-past c.self.inside.words c.self.invariant.2 c.args.from c.loop-i.i le none (omega (arith, c.if-rest-ne0.false)))

pub returns : goal.returns
returns g c =
    let P : NumberSet → Type 0 = λ s. IsNext s c.args.from None in
    subst P c.self.view_is (none-left c.self.inside.words c.self.invariant.2 g.row.W c.args.from c.loop-i.i c.self.invariant.1 (omega (arith, c.loop-i-test.false)) c.loop-i.invariant.1)
