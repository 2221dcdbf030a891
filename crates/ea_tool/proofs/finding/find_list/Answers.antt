use Rattle.hy_formula.specs.Formulas.{plain_formula}
use Rattle.ea_tool.specs.Finding.{within, none, undecided}
use Rattle.ea_tool.proofs.Searches.{refused}
use Rattle.ea_tool.proofs.finding.find_list.Goals as goal

pub returns-in-Ok-Found : goal.returns-in-Ok-Found
returns-in-Ok-Found c =
    within c.in-Ok-Found.list c.in-Ok-Found.ensures.within (rw c.in-Ok-Found.field-0-is at c.in-Ok-Found.ensures.answer)

pub returns-in-Ok-NoneWithin : goal.returns-in-Ok-NoneWithin
returns-in-Ok-NoneWithin c =
    none c.in-Ok-NoneWithin.log c.in-Ok-NoneWithin.ensures.within (rw c.in-Ok-NoneWithin.field-0-is at c.in-Ok-NoneWithin.ensures.answer)

pub returns-in-Ok-Spent : goal.returns-in-Ok-Spent
returns-in-Ok-Spent c =
    undecided c.in-Ok-Spent.log c.in-Ok-Spent.ensures.within (rw c.in-Ok-Spent.field-0-is at c.in-Ok-Spent.ensures.answer)

pub returns-in-Err : goal.returns-in-Err
returns-in-Err c =
    rw c.search_refusal.ensures (refused c.args.bound.now c.args.conflicts (plain_formula c.args.formula.now) _ c.in-Err.ensures.refused)
