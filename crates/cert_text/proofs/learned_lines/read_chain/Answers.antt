use Rattle.std.proofs.Common.{[]}
use Rattle.cert_text.specs.Lines.{words_of}
use Rattle.cert_text.specs.Numbers.{SaysCount}
use Rattle.cert_text.specs.Shortened.{short_number}
use Rattle.cert_text.proofs.Cutting.{pieces_some}
use Rattle.cert_text.proofs.Kept.{none_kept, one_kept, chain_read}
use Rattle.cert_text.proofs.NumbersRead.{zero_no_count}
use Rattle.cert_text.proofs.WordsRead.{ended_more, ended_bad}
use Rattle.cert_text.proofs.learned_lines.read_chain.Goals as goal

pub loop-word-init : goal.loop-word-init
loop-word-init c = record {
  ended = λ rest. (λ ended. ended, λ ended. ended);
  kept = none_kept SaysCount short_number (words_of c.args.text.now) c.truncate.new.self c.truncate.ensures;
}

pub returns-in_default-read_count : goal.returns-in_default-read_count
returns-in_default-read_count c = λ chain said.
    ended_bad SaysCount (words_of c.args.text.now) (words_of c.loop-word.left.now)
    (words_of c.in-Some.rest.now) c.in-Some.word.now c.loop-word.invariant.ended
    c.in-Some.ensures.pieces [] (λ (_, none). pieces_some 32 c.in-Some.rest.now none)
    (λ (speaks, _). c.in_default-read_count.ensures speaks) chain said

pub loop-word-preserved : goal.loop-word-preserved
loop-word-preserved c =
    let (n, says, is) = c.in-Some-read_count.ensures in
    record {
      ended =
          ended_more SaysCount zero_no_count (words_of c.args.text.now)
          (words_of c.loop-word.left.now) (words_of c.in-Some.rest.now) c.in-Some.word.now
          c.loop-word.invariant.ended c.in-Some.ensures.pieces (n, says);
      kept =
          one_kept SaysCount short_number (words_of c.args.text.now)
          (words_of c.loop-word.left.now) (words_of c.in-Some.rest.now) c.in-Some.word.now n
          c.in-Some-read_count.number c.loop-word.chain c.push.new.self
          c.loop-word.invariant.kept c.in-Some.ensures.pieces says is c.in_ok-push.ensures.added;
    }

pub returns : goal.returns
returns c =
    chain_read c.args.text.now c.loop-word.left.now c.loop-word.chain c.equals.result
    c.loop-word.invariant.ended c.loop-word.invariant.kept c.in_default.ensures.pieces
    c.equals.ensures
