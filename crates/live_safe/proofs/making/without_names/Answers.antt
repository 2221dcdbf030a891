use Rattle.std.proofs.Common.{◌≡◌, ℕ, suc, ◌+◌, List, [], ◌∷◌, ◌++◌, sym, ap, ◌∙◌, arith}
use Rattle.hy_base.proofs.Listed.{listed-last}
use Rattle.live_safe.specs.Places.{no_names}
use Rattle.live_safe.proofs.making.without_names.Goals as goal

one-name : (n : ℕ) (names more : List (List ℕ)) (name : List ℕ) → names ≡ no_names n →
    name ≡ [] → more ≡ names ++ name ∷ [] → more ≡ no_names (n + 1)
one-name n names more name e none added =
    let up : n + 1 ≡ suc n = omega arith in
    added ∙ ap (λ l. l ++ name ∷ []) e ∙ ap (λ x. no_names n ++ x ∷ []) none
    ∙ sym (listed-last 0 n (λ _. [])) ∙ ap no_names (sym up)

pub loop-i-preserved : goal.loop-i-preserved
loop-i-preserved c =
    one-name c.loop-i.i _ _ _ c.loop-i.invariant c.new.ensures c.in_ok-push.ensures.added
