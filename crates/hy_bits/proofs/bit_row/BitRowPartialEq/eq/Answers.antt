use Rattle.std.proofs.Common.{nat_eq, sym, ◌∙◌}
use Rattle.hy_bits.specs.Binary.{number}
use Rattle.hy_bits.specs.BinaryLaws.{number-ones}
use Rattle.hy_bits.specs.Rows.{joined}
use Rattle.hy_bits.proofs.RowOperations.{same_joined}
use Rattle.hy_bits.proofs.bit_row.BitRowPartialEq.eq.Goals as goal

pub returns : goal.returns
returns g c =
    let xs = c.self.inside.words in
    let ys = c.other.inside.words in
    c.eq.ensures
    ∙ same_joined xs ys c.self.invariant.2 c.other.invariant.2
    (c.self.invariant.1 ∙ sym c.other.invariant.1)
    ∙ sym (λ i. nat_eq (number-ones (joined xs) i) (number-ones (joined ys) i))
    ∙ (λ i. nat_eq (number (c.self.view_is i)) (number (c.other.view_is i)))
