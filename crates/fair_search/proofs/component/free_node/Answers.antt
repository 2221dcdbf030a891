use Rattle.std.proofs.Common.{ℕ, ◌∙◌, refl, below_more, arith, subst}
use Rattle.std.proofs.lemmas.List.{get_or_default}
use Rattle.rank_check.specs.Graphs.{Postpones}
use Rattle.fair_search.proofs.component.free_node.Goals as goal

pub loop-v-preserved : goal.loop-v-preserved
loop-v-preserved c = below_more _ _ c.loop-v.invariant (c.if-not-postpones.ensures.0 refl)

pub returns : goal.returns
returns c v there =
    let (k, lt, at) = there in
    let P : ℕ → Type 0 = λ v. Postpones c.args.g.now v c.args.until in
    subst P (get_or_default c.args.nodes.now k 0 v lt ∙ at)
    (c.loop-v.invariant k (omega (arith, lt)))
