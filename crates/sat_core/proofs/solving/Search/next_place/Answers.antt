use Rattle.std.proofs.Common.{◌≡◌, get_or, sym, ◌∙◌, subst}
use Rattle.std.specs.Prelude.{ℤ, pos}
use Rattle.std.specs.List.{Contains}
use Rattle.std.proofs.lemmas.List.{get_or_default}
use Rattle.sat_core.proofs.Assuming.{first-more}
use Rattle.sat_core.proofs.solving.Search.next_place.Goals as goal

pub loop-place-preserved : goal.loop-place-preserved
loop-place-preserved c =
    let at : c.index-assumptions-place.result
    ≡ get_or c.args.assumptions.now c.loop-place.place (pos 0) =
    c.index-assumptions-place.is ∙ sym (get_or_default c.args.assumptions.now c.loop-place.place
    (pos 0) c.index-assumptions-place.result c.loop-place-test.true) in
    let P : ℤ → Type 0 = Contains c.args.self.now.solver.partial.literals in
    first-more c.args.self.now.solver.partial.literals c.args.assumptions.now c.loop-place.place
    c.loop-place.invariant (subst P at (c.is_true.ensures.0 c.if-not-is_true.false))
