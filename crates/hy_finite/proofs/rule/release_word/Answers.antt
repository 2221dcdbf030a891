use Rattle.std.proofs.Common.{◌<◌, ◌^◌, suc, not, ap, sym, ◌∙◌, arith}
use Rattle.hy_bits.specs.Binary.{has_one}
use Rattle.hy_finite.proofs.Carrying.{has_one-not, release-turned}
use Rattle.hy_finite.proofs.rule.release_word.Goals as goal

pub returns : goal.returns
returns c k lt =
    let left : c.args.left < 2 ^ 64 = omega arith in
    let right : c.args.right < 2 ^ 64 = omega arith in
    let fits : c.until_word.result < 2 ^ 64 = omega (arith, c.until_word.type_inv) in
    has_one-not c.until_word.result k fits lt
    ∙ ap not (c.until_word.ensures k lt)
    ∙ sym
    (release-turned (has_one c.args.left) (has_one c.args.right) _ _ c.args.carry 64
    (λ j within. has_one-not c.args.left j left within)
    (λ j within. has_one-not c.args.right j right within) (suc k) (omega arith))
