use Rattle.std.proofs.Common.{◌≡◌, true, [], Err, inl, inr, refl, ap, ◌∙◌, length, arith}
use Rattle.made_traces.specs.MadeTraces.{made_traces}
use Rattle.rv_tool.specs.Monitoring.{whole_traces, spent}
use Rattle.rv_tool.specs.declared.verdict.Question.TheVariants.{MonitorMade}
use Rattle.rv_tool.proofs.FirstSpecs.{few-quantifiers, read-few}
use Rattle.rv_tool.proofs.Following.{ends_at_formulas, length-made, made_follow}
use Rattle.rv_tool.proofs.Outcomes.{outcome-by}
use Rattle.rv_tool.proofs.Sources.{fault-untaken}
use Rattle.rv_tool.proofs.monitoring.monitor_made.Goals as goal

pub returns-in-Err-clause-follows : goal.returns-in-Err-clause-follows
returns-in-Err-clause-follows g c =
    rw c.file_refusal.ensures
    (ends_at_formulas (MonitorMade c.args.count c.args.lengths c.args.drop) c.args.specs.now [] g.S.Shelf _ _ _ c.in-Err.fault
    (rw c.requires.empty at c.in-Err.ensures.failed))

pub returns-in_default-clause-follows : goal.returns-in_default-clause-follows
returns-in_default-clause-follows g c =
    made_follow c.args.specs.now c.args.count c.args.lengths c.args.drop g.S.Shelf _ _ _ _ (rw c.requires.empty at c.in-Ok.ensures.taken) _ spent

pub of_traces-source-requires : goal.of_traces-source-requires
of_traces-source-requires g c =
    let same : c.as_slice.result.now ≡ made_traces c.specs_in.new.names c.args.count = c.as_slice.ensures ∙ c.in-Ok-make_traces.ensures in
    omega (arith, ap length same, length-made c.specs_in.new.names c.args.count, c.requires.few)

pub judge-requires-clause-quantifiers : goal.judge-requires-clause-quantifiers
judge-requires-clause-quantifiers g c =
    few-quantifiers c.in-Ok.formulas (read-few true 4 _ _ _ _ c.in-Ok.ensures.taken.is).1

pub returns-clause-follows : goal.returns-clause-follows
returns-clause-follows g c =
    let same : c.as_slice.result.now ≡ made_traces c.specs_in.new.names c.args.count = c.as_slice.ensures ∙ c.in-Ok-make_traces.ensures in
    made_follow c.args.specs.now c.args.count c.args.lengths c.args.drop g.S.Shelf _ _ _ _ (rw c.requires.empty at c.in-Ok.ensures.taken) _
    (elim c.judge.ensures [
      | inl (good, outcome) ↦
          outcome-by c.args.lengths c.args.drop _ _ (λ es left. c.of_traces-source.ensures.left es left ∙ ap (whole_traces 0) same) outcome
      | inr (fault, found, answered) ↦ absurd (fault-untaken (Err fault) fault refl (c.of_traces-source.ensures.taken (Err fault) found))
    ])
