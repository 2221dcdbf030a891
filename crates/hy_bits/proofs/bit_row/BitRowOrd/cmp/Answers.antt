use Rattle.std.proofs.Common.{◌-◌, suc, ◌∙◌, arith, sym, nat_cmp}
use Rattle.hy_bits.specs.Binary.{number}
use Rattle.hy_bits.specs.BinaryLaws.{number-ones}
use Rattle.hy_bits.specs.Rows.{joined}
use Rattle.hy_bits.proofs.RowOperations.{AlikeFrom, cmp_alike, cmp_apart}
use Rattle.hy_bits.proofs.bit_row.BitRowOrd.cmp.Goals as goal

pub returns-then-self-j : goal.returns-then-self-j
returns-then-self-j g c =
    let xs = c.self.inside.words in
    let ys = c.other.inside.words in
    let alike : AlikeFrom xs ys (suc (c.loop-j.j - 1)) = λ k above. c.loop-j.invariant.1 k
    (omega arith) in
    c.cmp.ensures
    ∙ cmp_apart xs ys c.self.invariant.2 c.other.invariant.2
    (c.self.invariant.1 ∙ sym c.other.invariant.1) (c.loop-j.j - 1) alike c.if-self-j.true
    ∙ sym (λ i. nat_cmp (number-ones (joined xs) i) (number-ones (joined ys) i))
    ∙ (λ i. nat_cmp (number (c.self.view_is i)) (number (c.other.view_is i)))

pub returns : goal.returns
returns g c =
    let xs = c.self.inside.words in
    let ys = c.other.inside.words in
    let alike : AlikeFrom xs ys 0 = λ k _. c.loop-j.invariant.1 k (omega arith) in
    cmp_alike xs ys c.self.invariant.2 c.other.invariant.2
    (c.self.invariant.1 ∙ sym c.other.invariant.1) alike
    ∙ sym (λ i. nat_cmp (number-ones (joined xs) i) (number-ones (joined ys) i))
    ∙ (λ i. nat_cmp (number (c.self.view_is i)) (number (c.other.view_is i)))
