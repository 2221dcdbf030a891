use Rattle.std.proofs.Common.{ℕ, subst, ◌*◌}
use Rattle.hy_bits.specs.Sets.{NumberSet, AreBelow}
use Rattle.hy_bits.specs.Rows.{members}
use Rattle.hy_bits.specs.RowLaws.{members-below}
use Rattle.hy_bits.proofs.bit_row.BitRow.members_below.Goals as goal

pub returns : goal.returns
returns g c =
    let P : NumberSet → Type 0 = AreBelow (64 * g.row.W) in
    let Q : ℕ → Type 0 = λ n. AreBelow (64 * n) (members c.self.inside.words) in
    subst P c.self.view_is (subst Q c.self.invariant.1
    (members-below c.self.inside.words c.self.invariant.2))
