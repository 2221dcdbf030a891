use Rattle.std.proofs.Common.{ℕ, List, ◌∷◌, ◌++◌, map, ap, sym, ◌∙◌}
use Rattle.ea_reduce.proofs.Adding.{range-next}
use Rattle.ea_reduce.proofs.instances.spread.Goals as goal

pub loop-k-preserved : goal.loop-k-preserved
loop-k-preserved c =
    let f : ℕ → List (List ℕ) = λ k. map (λ m. k ∷ m) c.args.rest.now in
    c.in_ok-add_each.ensures ∙ ap (λ xs. xs ++ f c.loop-k.k) c.loop-k.invariant ∙ sym (range-next f c.loop-k.k)
