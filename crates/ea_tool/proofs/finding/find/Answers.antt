use Rattle.std.proofs.Common.{[]}
use Rattle.ea_tool.specs.declared.verdict.Question.TheVariants.{Find}
use Rattle.ea_tool.proofs.Reading.{ends_first}
use Rattle.ea_tool.proofs.Searches.{find_follows}
use Rattle.ea_tool.proofs.finding.find.Goals as goal

pub returns-in-Ok-clause-follows : goal.returns-in-Ok-clause-follows
returns-in-Ok-clause-follows g c =
    find_follows c.args.bound c.args.conflicts _ g.S.Shelf _ _ c.args.formula.now _ (rw c.requires.empty at c.in-Ok.ensures.taken) _ c.find_list.ensures

pub returns-in-Err-clause-follows : goal.returns-in-Err-clause-follows
returns-in-Err-clause-follows g c =
    rw c.file_refusal.ensures
    (ends_first (Find c.args.bound c.args.conflicts) c.args.formula.now [] g.S.Shelf _ _ _ c.in-Err.fault
    (rw c.requires.empty at c.in-Err.ensures.failed))
