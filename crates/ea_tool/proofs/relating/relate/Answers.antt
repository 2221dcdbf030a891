use Rattle.std.proofs.Common.{[], ◌∷◌}
use Rattle.ea_tool.specs.declared.verdict.Question.TheVariants.{Relate}
use Rattle.ea_tool.proofs.Decisions.{ends_at_second, relation_follows}
use Rattle.ea_tool.proofs.Reading.{ends_first}
use Rattle.ea_tool.proofs.relating.relate.Goals as goal

pub returns-in-Err-clause-follows : goal.returns-in-Err-clause-follows
returns-in-Err-clause-follows g c proof =
    rw c.file_refusal.ensures
    (ends_first (Relate c.args.relation c.args.engine proof) c.args.files.0.now (c.args.files.1.now ∷ []) g.S.Shelf _ _ _ c.in-Err.fault
    (rw c.requires.empty at c.in-Err.ensures.failed))

pub returns-in-Ok-formula_in-clause-follows : goal.returns-in-Ok-formula_in-clause-follows
returns-in-Ok-formula_in-clause-follows g c proof =
    relation_follows c.args.relation c.args.engine proof g.S.Shelf _ _ _ c.args.files.0.now c.args.files.1.now _ _
    (rw c.requires.empty at c.in-Ok.ensures.taken) _ _ c.in-Ok-formula_in.ensures.taken _ c.related.ensures

pub returns-clause-follows : goal.returns-clause-follows
returns-clause-follows g c proof =
    rw c.file_refusal-in-Err-formula_in.ensures
    (ends_at_second c.args.relation c.args.engine proof g.S.Shelf _ _ _ c.args.files.0.now c.args.files.1.now _ _
    (rw c.requires.empty at c.in-Ok.ensures.taken) _ c.in-Err-formula_in.fault c.in-Err-formula_in.ensures.failed)
