use Rattle.std.proofs.Common.{◌≡◌, ◌+◌, ◌*◌, ◌++◌, ◌∷◌, [], ◌∙◌, ℕ, List, suc, map, sym, ap, refl, arith}
use Rattle.std.specs.List.{range_with_len}
use Rattle.std.proofs.lemmas.List.{map-append}
use Rattle.aig_order.proofs.Sorted.{range-more}
use Rattle.aiger_body.proofs.body.own_inputs.Goals as goal

pub loop-k-preserved : goal.loop-k-preserved
loop-k-preserved c =
    let q : suc c.loop-k.k ≡ c.loop-k.k + 1 = omega arith in
    c.in_ok-push.ensures.added
    ∙ ap (λ (l : List ℕ). l ++ (2 * (1 + c.loop-k.k)) ∷ []) c.loop-k.invariant
    ∙ sym (map-append (λ k. 2 * k) (range_with_len 1 c.loop-k.k) ((1 + c.loop-k.k) ∷ []))
    ∙ ap (map (λ k. 2 * k)) (range-more 1 c.loop-k.k (1 + c.loop-k.k) refl)
    ∙ ap (λ n. map (λ k. 2 * k) (range_with_len 1 n)) q
