use Rattle.std.proofs.Common.{◌*◌, get_or, ◌+◌, ◌-◌, sym, ◌∙◌, ap, arith}
use Rattle.hy_finite.proofs.Decimals.{decimal-more, digit-fits, room}
use Rattle.hy_finite.proofs.number.decimal.Goals as goal

pub overflow_mul-n : goal.overflow_mul-n
overflow_mul-n c =
    let i = c.loop-digit-test.true in
    omega (
      arith,
      (room c.loop-digit.n 0 c.loop-digit.digit-index c.loop-digit.invariant.1
          (omega arith) (omega arith)).0,
    )

pub overflow_add-n : goal.overflow_add-n
overflow_add-n c =
    let digit = digit-fits c.args.digits.now c.loop-digit.digit-index c.requires.digits
    c.loop-digit-test.true in
    let fits = room c.loop-digit.n _ c.loop-digit.digit-index c.loop-digit.invariant.1 digit
    (omega arith) in
    omega (arith, fits.0)

pub loop-digit-preserved : goal.loop-digit-preserved
loop-digit-preserved c =
    let digit = digit-fits c.args.digits.now c.loop-digit.digit-index c.requires.digits
    c.loop-digit-test.true in
    let more = decimal-more c.args.digits.now c.loop-digit.digit-index c.loop-digit-test.true in (
      ap (λ n. n * 10 + (get_or c.args.digits.now c.loop-digit.digit-index 0 - 48))
          c.loop-digit.invariant.0 ∙ sym more,
      (room c.loop-digit.n _ c.loop-digit.digit-index c.loop-digit.invariant.1 digit
          (omega arith)).1,
    )
