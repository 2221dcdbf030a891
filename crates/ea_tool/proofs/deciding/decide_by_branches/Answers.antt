use Rattle.hy_formula.specs.Formulas.{plain_formula}
use Rattle.ea_tool.proofs.Decisions.{decide-sat, decide-unsat, decide-refused}
use Rattle.ea_tool.proofs.deciding.decide_by_branches.Goals as goal

pub returns-in-Ok-Sat : goal.returns-in-Ok-Sat
returns-in-Ok-Sat c =
    decide-sat (plain_formula c.args.formula.now) c.args.states c.in-Ok-Sat.list c.in-Ok-Sat.ensures.taken
    c.in-Ok-Sat.ensures.within (rw c.in-Ok-Sat.field-0-is at c.in-Ok-Sat.ensures.decision)

pub returns-in-Ok-Unsat : goal.returns-in-Ok-Unsat
returns-in-Ok-Unsat c =
    decide-unsat (plain_formula c.args.formula.now) c.args.states c.in-Ok-Unsat.proof c.in-Ok-Unsat.ensures.taken
    c.in-Ok-Unsat.ensures.within (rw c.in-Ok-Unsat.field-0-is at c.in-Ok-Unsat.ensures.decision)

pub returns-in-Err : goal.returns-in-Err
returns-in-Err c =
    rw c.decision_refusal.ensures (decide-refused (plain_formula c.args.formula.now) c.args.states _ c.in-Err.ensures.refused)
