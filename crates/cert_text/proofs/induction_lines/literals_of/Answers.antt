use Rattle.cert_text.proofs.ClauseLines.{no_literals, literals_found}
use Rattle.cert_text.proofs.induction_lines.literals_of.Goals as goal

pub returns-in_default : goal.returns-in_default
returns-in_default c = no_literals c.args.line.now c.in_default.ensures

pub returns : goal.returns
returns c =
    literals_found c.args.line.now c.in-Some.fact.now c.past_word-2.result c.in-Some.ensures
    c.past_word-2.ensures
