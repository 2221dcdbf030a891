use Rattle.std.proofs.Common.{◌∙◌}
use Rattle.net_names.proofs.MeaningLemmas.{all-together, not-empty}
use Rattle.net_names.proofs.meaning.meaning_of.Goals as goal

pub returns : goal.returns
returns c =
    all-together c.args.net.now c.args.name.now _ _ _ _ _ _ _ _ _ _
    (c.as_slice.ensures ∙ c.input_names.ensures) (c.as_slice-2.ensures ∙ c.latch_names.ensures)
    (c.as_slice-3.ensures ∙ c.output_names.ensures) (c.as_slice-4.ensures ∙ c.outputs.ensures)
    c.inputs.ensures
    (not-empty c.args.name.now c.is_empty.result c.is_empty.ensures c.if-is_empty.false)
    c.of_variables-inputs.ensures c.of_variables-latches.ensures c.of_literals-outputs.ensures
    c.with.ensures c.with-2.ensures
