use Rattle.std.proofs.Common.{◌<◌, ◌*◌, ◌/◌, ◌%◌, ◌^◌, ap, ◌∙◌, arith, length, get_or, bit_or, w64}
use Rattle.std.proofs.Math.ListN.{length-set}
use Rattle.std.proofs.lemmas.Nat.{or_lt, mod_below, pow_pos}
use Rattle.std.proofs.lemmas.Nat.Bits.{bit_at_set_same, bit_at_set_other}
use Rattle.std.specs.FinSet.{insert}
use Rattle.hy_bits.proofs.RowOperations.{words-set, members-insert}
use Rattle.hy_bits.proofs.bit_row.BitRow.with.Goals as goal

pub invariant_of-result : goal.invariant_of-result
invariant_of-result g c =
    let ws = c.self.inside.words in
    let k = c.args.i / 64 in
    let within : k < length ws = omega (arith, c.self.invariant.1) in
    let word = bit_or (get_or ws k 0) (1 * 2 ^ (c.args.i % 64) % 2 ^ 64) in
    let fits : word < 2 ^ 64 = or_lt 64 _ _ (c.self.invariant.2 k) (mod_below _ _ (pow_pos 64)) in (
      c.self.invariant.0,
      length-set ws k word ∙ c.self.invariant.1,
      words-set ws k word c.self.invariant.2 within fits,
    )

pub returns : goal.returns
returns g c =
    let ws = c.self.inside.words in
    let k = c.args.i / 64 in
    let p = c.args.i % 64 in
    let within : k < length ws = omega (arith, c.self.invariant.1) in
    let low : p < 64 = omega arith in
    let word = bit_or (get_or ws k 0) (1 * 2 ^ p % 2 ^ 64) in
    let fits : word < 2 ^ 64 = or_lt 64 _ _ (c.self.invariant.2 k) (mod_below _ _ (pow_pos 64)) in
    members-insert ws c.args.i word within
    (λ q _ apart. bit_at_set_other w64 (get_or ws k 0) p low q apart)
    c.self.invariant.2 fits (bit_at_set_same w64 (get_or ws k 0) p low)
    ∙ ap (λ s. insert s c.args.i) c.self.view_is
