use Rattle.std.proofs.Common.{◌≡◌, ◌+◌, ◌-◌, suc, length, List, Bool, take, drop, ◌∙◌, ap, subst, arith}
use Rattle.std.specs.Bool.{Decides}
use Rattle.std.specs.Cmp.{booleans_Decides}
use Rattle.std.proofs.lemmas.Slice.Eq.{slice_eq-Decides}
use Rattle.aig_net.specs.Rows.{latch_row}
use Rattle.aig_net.proofs.simulation.has_latches.Goals as goal

pub returns : goal.returns
returns c =
    let from : 1 + c.inputs.result ≡ suc c.args.net.now.inputs = omega (arith, c.inputs.ensures) in
    let many : 1 + c.inputs.result + length c.args.latches.now -
    (1 + c.inputs.result) ≡ length c.args.net.now.latches = omega (arith, c.requires.latches) in
    let part : take (1 + c.inputs.result + length c.args.latches.now - (1 + c.inputs.result))
    (drop (1 + c.inputs.result) c.args.values.now) ≡ latch_row c.args.net.now c.args.values.now
    =
    ap (λ n. take n (drop (1 + c.inputs.result) c.args.values.now)) many
    ∙ ap (λ n. take (length c.args.net.now.latches) (drop n c.args.values.now)) from in
    let P : List Bool → Type 0 = λ x. Decides c.eq.result (x ≡ c.args.latches.now) in
    subst P part (slice_eq-Decides booleans_Decides _ _ c.eq.result c.eq.ensures)
