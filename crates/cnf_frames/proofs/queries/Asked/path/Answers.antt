use Rattle.std.proofs.Common.{◌≡◌, ◌+◌, ◌*◌, length, ap, ◌∙◌, arith}
use Rattle.aig_net.specs.Nets.{variables}
use Rattle.hy_base.proofs.Listed.{length-listed}
use Rattle.cnf_frames.specs.QueryPaths.{word_of}
use Rattle.cnf_frames.proofs.Answering.{answered}
use Rattle.cnf_frames.proofs.Rows.{row_more, row-as, shown, values_from}
use Rattle.cnf_frames.proofs.queries.Asked.path.Goals as goal

pub loop-i-preserved : goal.loop-i-preserved
loop-i-preserved c =
    row_more (λ i. values_from c.args.values.now (i * variables c.args.safe.now.net + 1)
    c.args.safe.now.net.inputs) c.loop-i.i _ _ c.in_ok-row_of.field-0 c.loop-i.invariant
    (row-as c.args.values.now c.as_slice-in-loop-i.result.now
    (c.loop-i.i * c.variables-variables.result + 1)
    (c.loop-i.i * variables c.args.safe.now.net + 1) c.inputs-inputs.result
    c.args.safe.now.net.inputs c.in_ok-row_of.field-0 c.in_ok-row_of.ensures
    c.as_slice-in-loop-i.ensures
    (ap (λ v. c.loop-i.i * v + 1) c.variables-variables.ensures.count) c.inputs-inputs.ensures)
    c.in_ok-push.ensures.added

pub returns-clause-path : goal.returns-clause-path
returns-clause-path c = (
  word_of c.args.safe.now c.args.values.now,
  answered c.args.safe.now c.args.self.now c.args.values.now c.requires.safe
      c.requires.values,
  shown c.args.safe.now c.args.values.now _ c.loop-i.i
      (row-as c.args.values.now c.as_slice.result.now (1 + c.inputs-inputs.result)
      (1 + c.args.safe.now.net.inputs) c.len.result (length c.args.safe.now.net.latches)
      c.in_ok-first.first c.in_ok-first.ensures c.as_slice.ensures
      (ap (λ n. 1 + n) c.inputs-inputs.ensures)
      (c.len.ensures ∙ ap length c.latches.ensures))
      c.loop-i.invariant,
)

pub returns-clause-steps : goal.returns-clause-steps
returns-clause-steps c =
    let long = length-listed 0 c.loop-i.i (λ i. values_from c.args.values.now
    (i * variables c.args.safe.now.net + 1) c.args.safe.now.net.inputs) in
    let all : c.loop-i.i ≡ c.steps_asked-i-end.result = omega arith in
    ap length c.loop-i.invariant ∙ long ∙ all ∙ c.steps_asked-i-end.ensures.steps
