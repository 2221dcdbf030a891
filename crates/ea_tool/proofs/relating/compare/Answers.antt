use Rattle.hy_formula.specs.Formulas.{plain_formula}
use Rattle.ea_tool.proofs.Decisions.{compare-same, compare-first, compare-second, compare-refused}
use Rattle.ea_tool.proofs.relating.compare.Goals as goal

pub returns-in-Ok-Same : goal.returns-in-Ok-Same
returns-in-Ok-Same c =
    compare-same (plain_formula c.args.first.now) (plain_formula c.args.second.now) c.args.states _ _
    c.in-Ok-Same.ensures.first c.in-Ok-Same.ensures.second (rw c.in-Ok-Same.field-0-is at c.in-Ok-Same.ensures.within)
    (rw c.in-Ok-Same.field-0-is at c.in-Ok-Same.ensures.decision)

pub returns-in-Ok-First : goal.returns-in-Ok-First
returns-in-Ok-First c =
    compare-first (plain_formula c.args.first.now) (plain_formula c.args.second.now) c.args.states _
    c.in-Ok-First.ensures.first c.in-Ok-First.ensures.second (rw c.in-Ok-First.field-0-is at c.in-Ok-First.ensures.within)
    (rw c.in-Ok-First.field-0-is at c.in-Ok-First.ensures.decision)

pub returns-in-Ok-Second : goal.returns-in-Ok-Second
returns-in-Ok-Second c =
    compare-second (plain_formula c.args.first.now) (plain_formula c.args.second.now) c.args.states _
    c.in-Ok-Second.ensures.first c.in-Ok-Second.ensures.second (rw c.in-Ok-Second.field-0-is at c.in-Ok-Second.ensures.within)
    (rw c.in-Ok-Second.field-0-is at c.in-Ok-Second.ensures.decision)

pub returns-in-Err : goal.returns-in-Err
returns-in-Err c =
    rw c.decision_refusal.ensures
    (compare-refused (plain_formula c.args.first.now) (plain_formula c.args.second.now) c.args.states _ c.in-Err.ensures.refused)
