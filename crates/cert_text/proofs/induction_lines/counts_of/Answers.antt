use Rattle.std.specs.Prelude.{codes}
use Rattle.cert_text.proofs.Heads.{two_behind_two, no_second_two}
use Rattle.cert_text.proofs.induction_lines.counts_of.Goals as goal

pub returns-in_default-past_word-clause-said : goal.returns-in_default-past_word-clause-said
returns-in_default-past_word-clause-said c =
    no_second_two (codes "proof") c.args.word.now c.args.line.now c.in-Some.rest.now
    c.in-Some.ensures c.in_default-past_word.ensures

pub returns-clause-said : goal.returns-clause-said
returns-clause-said c =
    two_behind_two (codes "proof") c.args.word.now c.args.line.now c.in-Some.rest.now
    c.in-Some-past_word.counts.now c.two_numbers.result c.in-Some.ensures
    c.in-Some-past_word.ensures
    c.two_numbers.ensures.said
