use Rattle.std.proofs.Common.{◌<◌, ◌*◌, ◌/◌, ◌%◌, ◌^◌, ap, ◌∙◌, arith, length, get_or, bit_and, w64}
use Rattle.std.proofs.Math.Nat.{lt_of_le_of_lt}
use Rattle.std.proofs.lemmas.Nat.{and_le_l}
use Rattle.std.proofs.lemmas.Nat.Bits.{bit_at_clear_same, bit_at_clear_other}
use Rattle.std.specs.Int.{bit_not}
use Rattle.std.specs.FinSet.{remove}
use Rattle.hy_bits.proofs.RowOperations.{members-remove}
use Rattle.hy_bits.proofs.bit_row.BitRow.without.Goals as goal

pub returns : goal.returns
returns g c =
    let ws = c.self.inside.words in
    let k = c.args.i / 64 in
    let p = c.args.i % 64 in
    let within : k < length ws = omega (arith, c.self.invariant.1) in
    let low : p < 64 = omega arith in
    let word = bit_and (get_or ws k 0) (bit_not w64 (1 * 2 ^ p % 2 ^ 64)) in
    let fits : word < 2 ^ 64 = lt_of_le_of_lt (and_le_l (get_or ws k 0) _) (c.self.invariant.2 k) in
    members-remove ws c.args.i word within
    (λ q at apart. bit_at_clear_other w64 (get_or ws k 0) p low q at apart)
    c.self.invariant.2 fits (bit_at_clear_same w64 (get_or ws k 0) p low)
    ∙ ap (λ s. remove s c.args.i) c.self.view_is
