use Rattle.std.proofs.Common.{◌≡◌, true, false, sym, ◌∙◌}
use Rattle.cert_text.specs.Lines.{words_of}
use Rattle.hy_text.specs.Numbers.{SaysNumber}
use Rattle.cert_text.proofs.NumbersRead.{through}
use Rattle.cert_text.proofs.WordsRead.{each_said, said_each, each_step, each_bad, each_alone}
use Rattle.cert_text.proofs.numbers.are_numbers.Goals as goal

pub returns-then-not-is_number : goal.returns-then-not-is_number
returns-then-not-is_number c = (
  λ (yes : false ≡ true). absurd (cc),
  λ (numbers, said). absurd
      (each_bad SaysNumber (words_of c.loop-word.left.now) (words_of c.in-Some.rest.now)
      c.in-Some.word.now c.in-Some.ensures.pieces
      (λ speaks.
      let clash : false ≡ true = sym c.if-not-is_number.true ∙ c.is_number.ensures.1 speaks in
      absurd (cc))
      (c.loop-word.invariant.0 (said_each SaysNumber (words_of c.args.text.now) numbers said))),
)

pub loop-word-preserved : goal.loop-word-preserved
loop-word-preserved c =
    through c.loop-word.invariant
    (each_step SaysNumber (words_of c.loop-word.left.now) (words_of c.in-Some.rest.now)
    c.in-Some.word.now c.in-Some.ensures.pieces
    (c.is_number.ensures.0 c.if-not-is_number.false))

pub returns : goal.returns
returns c =
    let last = each_alone SaysNumber (words_of c.loop-word.left.now) c.loop-word.left.now
    c.in_default.ensures.pieces in (
      λ yes. each_said SaysNumber (words_of c.args.text.now)
          (c.loop-word.invariant.1 (last.1 (c.is_number-2.ensures.0 yes))),
      λ (numbers, said). c.is_number-2.ensures.1
          (last.0 (c.loop-word.invariant.0 (said_each SaysNumber (words_of c.args.text.now) numbers
          said))),
    )
