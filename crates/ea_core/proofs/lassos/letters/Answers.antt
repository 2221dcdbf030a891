use Rattle.std.proofs.Common.{◌≡◌, length, ap, ◌∙◌, arith}
use Rattle.ltl_tableau.specs.WalkWords.{letter_below}
use Rattle.ea_core.proofs.Lettering.{letters-all}
use Rattle.ea_core.proofs.lassos.letters.Goals as goal

pub returns : goal.returns
returns g c =
    let end : c.loop-k.k ≡ length c.args.c.now.nodes = omega (arith, c.loop-k-test.false, c.loop-k.auto.k-end, c.len-k-end.ensures.len) in
    letters-all c.args.c.now.nodes c.args.branch.now c.args.vars c.loop-k.row c.loop-k.invariant.long
    (λ v lt. c.loop-k.invariant.letters v lt ∙ ap (letter_below c.args.c.now.nodes c.args.branch.now.now v) end)
