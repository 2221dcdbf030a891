use Rattle.std.proofs.Common.{◌≡◌, true, false, ◌∷◌, sym, ◌∙◌}
use Rattle.cert_text.specs.Lines.{words_of}
use Rattle.cert_text.specs.Numbers.{SaysLiteral}
use Rattle.cert_text.proofs.NumbersRead.{zero_no_literal}
use Rattle.cert_text.proofs.WordsRead.{ended_more, ended_here, ended_bad, ended_last}
use Rattle.cert_text.proofs.induction_lines.past_clause.Goals as goal

pub returns-then-equals : goal.returns-then-equals
returns-then-equals c =
    ended_here SaysLiteral (words_of c.args.text.now) (words_of c.loop-word.left.now)
    (words_of c.in-Some.rest.now) c.in-Some.word.now c.loop-word.invariant
    c.in-Some.ensures.pieces (c.equals.ensures.0 c.if-equals.true)

pub returns-then-not-is_literal : goal.returns-then-not-is_literal
returns-then-not-is_literal c = λ clause next more said.
    ended_bad SaysLiteral (words_of c.args.text.now) (words_of c.loop-word.left.now)
    (words_of c.in-Some.rest.now) c.in-Some.word.now c.loop-word.invariant
    c.in-Some.ensures.pieces (next ∷ more)
    (λ (is, _).
    let clash : false ≡ true = sym c.if-equals.false ∙ c.equals.ensures.1 is in absurd (cc))
    (λ (speaks, _).
    let clash : false ≡ true = sym c.if-not-is_literal.true ∙ c.is_literal.ensures.1 speaks in
    absurd (cc)) clause said

pub loop-word-preserved : goal.loop-word-preserved
loop-word-preserved c =
    ended_more SaysLiteral zero_no_literal (words_of c.args.text.now)
    (words_of c.loop-word.left.now)
    (words_of c.in-Some.rest.now) c.in-Some.word.now c.loop-word.invariant
    c.in-Some.ensures.pieces (c.is_literal.ensures.0 c.if-not-is_literal.false)

pub returns : goal.returns
returns c = λ clause next more said.
    let (is, none) = ended_last SaysLiteral (words_of c.args.text.now)
    (words_of c.loop-word.left.now) c.loop-word.left.now c.loop-word.invariant
    c.in_default.ensures.pieces (next ∷ more) clause said in
    absurd (cc (none))
