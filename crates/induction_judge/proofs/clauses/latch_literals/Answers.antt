use Rattle.std.proofs.Common.{[]}
use Rattle.cert_text.specs.Lines.{words_of}
use Rattle.induction_judge.proofs.Latches.{none_read, more_read, bad_word, last_read}
use Rattle.induction_judge.proofs.clauses.latch_literals.Goals as goal

pub loop-word-init : goal.loop-word-init
loop-word-init c =
    none_read c.args.latches c.args.text.now c.new-literals.result c.new-literals.ensures

pub returns-in_default-latch_literal : goal.returns-in_default-latch_literal
returns-in_default-latch_literal c =
    bad_word c.args.latches c.args.text.now c.loop-word.left.now (words_of c.in-Some.rest.now)
    c.in-Some.word.now c.loop-word.literals c.loop-word.invariant c.in-Some.ensures.pieces
    c.in_default-latch_literal.ensures

pub loop-word-preserved : goal.loop-word-preserved
loop-word-preserved c =
    more_read c.args.latches c.args.text.now c.loop-word.left.now c.in-Some.rest.now
    c.in-Some.word.now c.loop-word.literals c.push.new.self c.in-Some-latch_literal.l
    c.loop-word.invariant c.in-Some.ensures.pieces c.in-Some-latch_literal.ensures
    c.in_ok-push.ensures.added

pub returns-in_default-latch_literal-2 : goal.returns-in_default-latch_literal-2
returns-in_default-latch_literal-2 c =
    bad_word c.args.latches c.args.text.now c.loop-word.left.now [] c.loop-word.left.now
    c.loop-word.literals c.loop-word.invariant c.in_default.ensures.pieces
    c.in_default-latch_literal-2.ensures

pub returns : goal.returns
returns c =
    last_read c.args.latches c.args.text.now c.loop-word.left.now c.loop-word.left.now
    c.loop-word.literals c.push-2.new.self c.in-Some-latch_literal-2.l c.loop-word.invariant
    c.in_default.ensures.pieces c.in-Some-latch_literal-2.ensures c.in_ok-push-2.ensures.added
