use Rattle.std.proofs.Common.{[], ◌∷◌}
use Rattle.ea_tool.specs.declared.verdict.Question.TheVariants.{Judge}
use Rattle.ea_tool.proofs.Reading.{ends_first}
use Rattle.ea_tool.proofs.Judgements.{ends_at_lassos, judgement_follows}
use Rattle.ea_tool.proofs.judging.judge.Goals as goal

pub returns-in-Err-clause-follows : goal.returns-in-Err-clause-follows
returns-in-Err-clause-follows g c =
    rw c.file_refusal.ensures
    (ends_first Judge c.args.formula.now (c.args.lassos.now ∷ []) g.S.Shelf _ _ _ c.in-Err.fault (rw c.requires at c.in-Err.ensures.failed))

pub returns-in-Ok-lassos_in-clause-follows : goal.returns-in-Ok-lassos_in-clause-follows
returns-in-Ok-lassos_in-clause-follows g c =
    judgement_follows g.S.Shelf _ _ _ c.args.formula.now c.args.lassos.now _ _ (rw c.requires at c.in-Ok.ensures.taken) _
    c.in-Ok-lassos_in.ensures.taken _ c.judge_list.ensures

pub returns-clause-follows : goal.returns-clause-follows
returns-clause-follows g c =
    rw c.file_refusal-in-Err-lassos_in.ensures
    (ends_at_lassos g.S.Shelf _ _ _ c.args.formula.now c.args.lassos.now _ _ (rw c.requires at c.in-Ok.ensures.taken) _
    c.in-Err-lassos_in.fault c.in-Err-lassos_in.ensures.failed)
