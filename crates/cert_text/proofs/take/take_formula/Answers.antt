use Rattle.cert_text.proofs.Verdicts.{sat_opens, unsat_opens}
use Rattle.cert_text.proofs.take.take_formula.Goals as goal

pub returns-then-equals : goal.returns-then-equals
returns-then-equals c = sat_opens c.args.line.now (c.equals.ensures.0 c.if-equals.true)

pub returns-then-equals-2 : goal.returns-then-equals-2
returns-then-equals-2 c =
    unsat_opens c.args.line.now (c.equals-else-equals.ensures.0 c.if-equals-2.true)
