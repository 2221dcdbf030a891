use Rattle.std.proofs.Common.{◌%◌, nat_eq, ap, sym, ◌∙◌}
use Rattle.std.proofs.lemmas.Nat.Bits.{shr_and_one}
use Rattle.std.specs.FinSet.{contains}
use Rattle.hy_bits.specs.RowLaws.{contains-members}
use Rattle.hy_bits.proofs.bit_row.BitRow.has.Goals as goal

pub returns : goal.returns
returns g c =
    ap (λ b. nat_eq b 1) (shr_and_one _ (c.args.i % 64))
    ∙ sym (contains-members c.self.inside.words c.args.i c.self.invariant.2)
    ∙ ap (λ s. contains s c.args.i) c.self.view_is
