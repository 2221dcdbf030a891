use Rattle.std.proofs.Common.{◌≡◌, true, false, [], ◌∷◌, ◌++◌, sym, ◌∙◌, ap, rules, SFits, w32}
use Rattle.std.proofs.lemmas.Int.{to_z-of_z}
use Rattle.cert_text.specs.Lines.{words_of}
use Rattle.cert_text.specs.Numbers.{SaysLiteral}
use Rattle.cert_text.specs.Shortened.{short_literal}
use Rattle.cert_text.proofs.Kept.{none_kept, one_kept, all_kept}
use Rattle.cert_text.proofs.NumbersRead.{zero_no_literal}
use Rattle.cert_text.proofs.WordsRead.{ended_more, ended_bad, ended_last}
use Rattle.cert_text.proofs.learned_lines.read_clause.Goals as goal

pub loop-word-init : goal.loop-word-init
loop-word-init c = record {
  ended = λ rest. (λ ended. ended, λ ended. ended);
  kept = none_kept SaysLiteral short_literal (words_of c.args.text.now) c.truncate.new.self c.truncate.ensures;
}

pub returns-then-equals : goal.returns-then-equals
returns-then-equals c =
    all_kept SaysLiteral short_literal (words_of c.args.text.now) (words_of c.loop-word.left.now)
    (words_of c.in-Some.rest.now) c.in-Some.word.now c.loop-word.clause c.loop-word.invariant.kept
    c.in-Some.ensures.pieces (c.equals.ensures.0 c.if-equals.true)

pub returns-in_default-read_literal : goal.returns-in_default-read_literal
returns-in_default-read_literal c = λ clause next more said.
    ended_bad SaysLiteral (words_of c.args.text.now) (words_of c.loop-word.left.now)
    (words_of c.in-Some.rest.now) c.in-Some.word.now c.loop-word.invariant.ended
    c.in-Some.ensures.pieces (next ∷ more)
    (λ (is, _).
    let clash : false ≡ true = sym c.if-equals.false ∙ c.equals.ensures.1 is in absurd (cc))
    (λ (speaks, _). c.in_default-read_literal.ensures speaks) clause said

pub loop-word-preserved : goal.loop-word-preserved
loop-word-preserved c =
    let (l, says, is) = c.in-Some-read_literal.ensures in
    let fits : SFits w32 c.in-Some-read_literal.literal = search rules in
    let bits = to_z-of_z w32 c.in-Some-read_literal.literal fits in
    record {
      ended =
          ended_more SaysLiteral zero_no_literal (words_of c.args.text.now)
          (words_of c.loop-word.left.now) (words_of c.in-Some.rest.now) c.in-Some.word.now
          c.loop-word.invariant.ended c.in-Some.ensures.pieces (l, says);
      kept =
          one_kept SaysLiteral short_literal (words_of c.args.text.now)
          (words_of c.loop-word.left.now) (words_of c.in-Some.rest.now) c.in-Some.word.now l
          c.in-Some-read_literal.literal c.loop-word.clause c.push.new.self
          c.loop-word.invariant.kept c.in-Some.ensures.pieces says is
          (c.in_ok-push.ensures.added ∙ ap (λ z. c.loop-word.clause ++ z ∷ []) bits);
    }

pub returns : goal.returns
returns c = λ clause next more said.
    let (is, none) = ended_last SaysLiteral (words_of c.args.text.now)
    (words_of c.loop-word.left.now) c.loop-word.left.now c.loop-word.invariant.ended
    c.in_default.ensures.pieces (next ∷ more) clause said in
    absurd (cc (none))
