use Rattle.std.proofs.Common.{arith}
use Rattle.wit_lasso.proofs.PathRuns.{place-computed, rows_fit, unfolds_at}
use Rattle.wit_lasso.proofs.unfolding.unfold.Goals as goal

pub overflow_mul-free : goal.overflow_mul-free
overflow_mul-free c =
    let (le, _) = place-computed c.args.net.now c.args.n c.args.safe.now _ _ _ _ _
    c.variables.ensures.net c.requires.safe c.inputs-inputs.ensures c.free_latches.ensures
    c.as_slice.ensures c.resets.ensures c.from.ensures in
    let small = c.inputs-inputs.type_inv in
    omega (arith, le, small)

pub overflow_sub-place : goal.overflow_sub-place
overflow_sub-place c =
    let (le, _) = place-computed c.args.net.now c.args.n c.args.safe.now _ _ _ _ _
    c.variables.ensures.net c.requires.safe c.inputs-inputs.ensures c.free_latches.ensures
    c.as_slice.ensures c.resets.ensures c.from.ensures in
    omega (arith, le)

pub overflow_sub-place-2 : goal.overflow_sub-place-2
overflow_sub-place-2 c =
    let (le, _) = place-computed c.args.net.now c.args.n c.args.safe.now _ _ _ _ _
    c.variables.ensures.net c.requires.safe c.inputs-inputs.ensures c.free_latches.ensures
    c.as_slice.ensures c.resets.ensures c.from.ensures in
    omega (arith, le)

pub runs_of-requires-clause-fit : goal.runs_of-requires-clause-fit
runs_of-requires-clause-fit c =
    let (_, at) = place-computed c.args.net.now c.args.n c.args.safe.now _ _ _ _ _
    c.variables.ensures.net c.requires.safe c.inputs-inputs.ensures c.free_latches.ensures
    c.as_slice.ensures c.resets.ensures c.from.ensures in
    let is = c.inputs-inputs.ensures in
    let small = c.inputs-inputs.type_inv in
    rows_fit c.args.net.now c.args.n c.args.safe.now c.args.path.now _ _ c.as_slice-rows.ensures at
    c.variables.ensures.net (omega (arith, is, small)) c.requires.safe c.requires.path

pub returns : goal.returns
returns c =
    let (_, at) = place-computed c.args.net.now c.args.n c.args.safe.now _ _ _ _ _
    c.variables.ensures.net c.requires.safe c.inputs-inputs.ensures c.free_latches.ensures
    c.as_slice.ensures c.resets.ensures c.from.ensures in
    unfolds_at c.args.net.now c.args.n c.args.safe.now c.args.path.now _ _ _ _
    c.as_slice-rows.ensures at c.variables.ensures.net c.requires.some
    c.saving_step-start.ensures.within c.saving_step-start.ensures.before
    c.saving_step-start.ensures.saves c.in_ok-runs.ensures
