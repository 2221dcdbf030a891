use Rattle.std.proofs.Common.{◌≡◌, true, false, [], sym, ◌∙◌}
use Rattle.cert_text.specs.Lines.{words_of}
use Rattle.cert_text.specs.Numbers.{SaysCount}
use Rattle.cert_text.proofs.Cutting.{pieces_some}
use Rattle.cert_text.proofs.NumbersRead.{zero_no_count}
use Rattle.cert_text.proofs.WordsRead.{ended_more, ended_here, ended_bad, ended_last}
use Rattle.cert_text.proofs.induction_lines.is_chain.Goals as goal

pub returns-then-not-is_count : goal.returns-then-not-is_count
returns-then-not-is_count c = (
  λ (yes : false ≡ true). absurd (cc),
  λ (xs, said). absurd
      (ended_bad SaysCount (words_of c.args.text.now) (words_of c.loop-word.left.now)
      (words_of c.in-Some.rest.now) c.in-Some.word.now c.loop-word.invariant
      c.in-Some.ensures.pieces [] (λ (_, none). pieces_some 32 c.in-Some.rest.now none)
      (λ (speaks, _).
      let clash : false ≡ true = sym c.if-not-is_count.true ∙ c.is_count.ensures.1 speaks in
      absurd (cc)) xs said),
)

pub loop-word-preserved : goal.loop-word-preserved
loop-word-preserved c =
    ended_more SaysCount zero_no_count (words_of c.args.text.now) (words_of c.loop-word.left.now)
    (words_of c.in-Some.rest.now) c.in-Some.word.now c.loop-word.invariant
    c.in-Some.ensures.pieces (c.is_count.ensures.0 c.if-not-is_count.false)

pub returns : goal.returns
returns c = (
  λ yes. ended_here SaysCount (words_of c.args.text.now) (words_of c.loop-word.left.now) []
      c.loop-word.left.now c.loop-word.invariant c.in_default.ensures.pieces
      (c.equals.ensures.0 yes),
  λ (xs, said). c.equals.ensures.1
      (ended_last SaysCount (words_of c.args.text.now) (words_of c.loop-word.left.now)
      c.loop-word.left.now c.loop-word.invariant c.in_default.ensures.pieces [] xs said).0,
)
