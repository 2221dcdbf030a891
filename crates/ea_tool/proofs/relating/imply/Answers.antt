use Rattle.hy_formula.specs.Formulas.{plain_formula}
use Rattle.ea_tool.proofs.Decisions.{imply-not, imply-yes, imply-refused}
use Rattle.ea_tool.proofs.relating.imply.Goals as goal

pub returns-in-Ok-Sat : goal.returns-in-Ok-Sat
returns-in-Ok-Sat c =
    imply-not (plain_formula c.args.first.now) (plain_formula c.args.second.now) c.args.states c.in-Ok-Sat.list
    c.in-Ok-Sat.ensures.first c.in-Ok-Sat.ensures.second c.in-Ok-Sat.ensures.within
    (rw c.in-Ok-Sat.field-0-is at c.in-Ok-Sat.ensures.decision)

pub returns-in-Ok-Unsat : goal.returns-in-Ok-Unsat
returns-in-Ok-Unsat c =
    imply-yes (plain_formula c.args.first.now) (plain_formula c.args.second.now) c.args.states c.in-Ok-Unsat.proof
    c.in-Ok-Unsat.ensures.first c.in-Ok-Unsat.ensures.second c.in-Ok-Unsat.ensures.within
    (rw c.in-Ok-Unsat.field-0-is at c.in-Ok-Unsat.ensures.decision)

pub returns-in-Err : goal.returns-in-Err
returns-in-Err c =
    rw c.decision_refusal.ensures
    (imply-refused (plain_formula c.args.first.now) (plain_formula c.args.second.now) c.args.states _ c.in-Err.ensures.refused)
