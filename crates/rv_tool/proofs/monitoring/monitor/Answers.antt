use Rattle.std.proofs.Common.{true, [], ◌∷◌}
use Rattle.rv_tool.specs.declared.verdict.Question.TheVariants.{Monitor}
use Rattle.rv_tool.proofs.FirstSpecs.{few-quantifiers, read-few}
use Rattle.rv_tool.proofs.Following.{ends_at_formulas, lines_follow, unread_follows}
use Rattle.rv_tool.proofs.monitoring.monitor.Goals as goal

pub returns-in-Err-clause-follows : goal.returns-in-Err-clause-follows
returns-in-Err-clause-follows g c =
    rw c.file_refusal.ensures
    (ends_at_formulas (Monitor c.args.lengths c.args.drop) c.args.specs.now (c.args.traces.now ∷ []) g.S.Shelf _ _ _ c.in-Err.fault
    (rw c.requires at c.in-Err.ensures.failed))

pub judge_lines-requires-clause-quantifiers : goal.judge_lines-requires-clause-quantifiers
judge_lines-requires-clause-quantifiers g c =
    few-quantifiers c.in-Ok.specs (read-few true 4 _ _ _ _ c.in-Ok.ensures.taken.is).1

pub returns-in-Ok-bytes_in-clause-follows : goal.returns-in-Ok-bytes_in-clause-follows
returns-in-Ok-bytes_in-clause-follows g c =
    lines_follow c.args.specs.now c.args.traces.now c.args.lengths c.args.drop g.S.Shelf _ _ _ _ _ (rw c.requires at c.in-Ok.ensures.taken)
    c.in-Ok-bytes_in.bytes c.in-Ok-bytes_in.ensures.read _ (rw c.as_slice.ensures at c.judge_lines.ensures)

pub returns-clause-follows : goal.returns-clause-follows
returns-clause-follows g c =
    let (error, came, said) = c.in-Err-bytes_in.ensures.failed in
    rw c.file_refusal-in-Err-bytes_in.ensures
    (unread_follows c.args.specs.now c.args.traces.now c.args.lengths c.args.drop g.S.Shelf _ _ _ _ _ (rw c.requires at c.in-Ok.ensures.taken) _
    c.in-Err-bytes_in.fault error came said)
