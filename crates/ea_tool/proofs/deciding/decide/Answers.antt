use Rattle.std.proofs.Common.{[]}
use Rattle.ea_tool.specs.declared.verdict.Question.TheVariants.{Decide}
use Rattle.ea_tool.proofs.Decisions.{decide_follows}
use Rattle.ea_tool.proofs.Reading.{ends_first}
use Rattle.ea_tool.proofs.deciding.decide.Goals as goal

pub returns-in-Ok-clause-follows : goal.returns-in-Ok-clause-follows
returns-in-Ok-clause-follows g c proof =
    decide_follows _ c.args.engine proof g.S.Shelf _ _ c.args.formula.now _ (rw c.requires.empty at c.in-Ok.ensures.taken) _ c.decide_formula.ensures

pub returns-in-Err-clause-follows : goal.returns-in-Err-clause-follows
returns-in-Err-clause-follows g c proof =
    rw c.file_refusal.ensures
    (ends_first (Decide c.args.engine proof) c.args.formula.now [] g.S.Shelf _ _ _ c.in-Err.fault (rw c.requires.empty at c.in-Err.ensures.failed))
