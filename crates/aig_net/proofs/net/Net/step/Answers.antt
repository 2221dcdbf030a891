use Rattle.std.proofs.Common.{◌≤◌, ◌+◌, length, ◌∙◌, ap, arith}
use Rattle.aig_net.proofs.RowLemmas.{Parts, parts, written, right-row}
use Rattle.aig_net.proofs.net.Net.step.Goals as goal

at : (c : goal.After-slice_known-4-1) →
    Parts c.args.self.now.inputs
    (length c.args.self.now.latches) c.args.inputs.now c.args.latches.now c.fill.new.values
at c =
    let room : 1 + length c.args.inputs.now + length c.args.latches.now ≤ length c.args.values.now
    = omega (arith, c.requires.inputs, c.requires.latches, c.requires.values) in
    parts _ _ _ _ _ _ c.requires.inputs c.requires.latches (c.fill.ensures.given
    ∙ written _ _ _ _ _ _ _ room c.copy_from_slice.ensures.after
    c.copy_from_slice-2.ensures.after)

pub returns-clause-inputs : goal.returns-clause-inputs
returns-clause-inputs c = (at c).inputs

pub returns-clause-latches : goal.returns-clause-latches
returns-clause-latches c = (at c).latches

pub returns-clause-right : goal.returns-clause-right
returns-clause-right c =
    right-row _ _ _ _ (c.as_slice.ensures ∙ ap (λ net. net.ands) c.self.view_is)
    (omega (arith, c.requires.inputs, c.requires.latches)) (at c).constant c.fill.ensures.right
