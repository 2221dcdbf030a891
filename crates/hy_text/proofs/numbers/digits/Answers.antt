use Rattle.std.proofs.Common.{◌≡◌, ◌+◌, get_or, arith, rules}
use Rattle.std.specs.Char.{digit_value}
use Rattle.std.proofs.lemmas.Str.{digit_value_digit}
use Rattle.std.proofs.lemmas.Str.Parse.{digit_at}
use Rattle.std.proofs.lemmas.Int.Digits.{digits_more, digits_value_more}
use Rattle.hy_text.proofs.Digits.{front_small}
use Rattle.hy_text.proofs.numbers.digits.Goals as goal
use Rattle.hy_text.proofs.numbers.digits.Goals.{then-b-lt48-via-then-b-lt48, then-b-lt48-via-else-b-lt48+then-b-gt57}

pub returns-then-b-lt48-clause-none : goal.returns-then-b-lt48-clause-none
returns-then-b-lt48-clause-none c all =
    let range = digit_at c.args.word.now c.loop-b.b-index all (omega arith) in
    elim c.then-b-lt48.branch [
      | then-b-lt48-via-then-b-lt48 w ↦ omega (arith, range)
      | then-b-lt48-via-else-b-lt48+then-b-gt57 w ↦ omega (arith, range)
    ]

pub overflow_mul-n : goal.overflow_mul-n
overflow_mul-n c = omega (arith, front_small c.args.word.now c.loop-b.b-index (omega arith) (omega arith) c.loop-b.invariant.0)

pub overflow_add-n : goal.overflow_add-n
overflow_add-n c = omega (arith, front_small c.args.word.now c.loop-b.b-index (omega arith) (omega arith) c.loop-b.invariant.0, c.from.ensures)

pub loop-b-preserved : goal.loop-b-preserved
loop-b-preserved c =
    let digit : digit_value (get_or c.args.word.now c.loop-b.b-index 0) + 48 ≡ get_or c.args.word.now c.loop-b.b-index 0 = digit_value_digit (get_or c.args.word.now c.loop-b.b-index 0) (search rules) in (
      digits_more 10 c.args.word.now c.loop-b.b-index (omega arith) c.loop-b.invariant.0 (omega arith),
      omega (arith, digits_value_more 10 c.args.word.now c.loop-b.b-index (omega arith), c.from.ensures),
    )
