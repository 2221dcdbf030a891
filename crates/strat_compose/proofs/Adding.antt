-- Copies that are added to a list, one item after the other.
use Rattle.std.proofs.Common.{◌≡◌, ℕ, ◌+◌, ◌<◌, ◌≤◌, List, [], ◌∷◌, ◌++◌, append_assoc, get_or, length, take, refl, ap, ◌∙◌}
use Rattle.hy_base.specs.Rows.{listed}
use Rattle.aig_net.specs.Copies.{copied}
use Rattle.aig_net.proofs.Copying.{one_item}

pub item-added : {A B : Type 0} (n : ℕ) (f : ℕ → A → B) (xs : List A) (y : A)
    (old start items : List B) (i c : ℕ) → i < length xs → y ≡ get_or xs i y →
    start ≡ old ++ copied n f (take i xs) → items ≡ start ++ listed 0 c (λ k. f k y) → n ≤ c →
    c ≤ n → items ≡ old ++ copied n f (take (i + 1) xs)
item-added n f xs y old start items i c lt at s e above below =
    e ∙ ap (λ l. l ++ listed 0 c (λ k. f k y)) s
    ∙ append_assoc old (copied n f (take i xs)) (listed 0 c (λ k. f k y))
    ∙ ap (λ l. old ++ l) (one_item n f xs y (copied n f (take i xs))
    (copied n f (take i xs) ++ listed 0 c (λ k. f k y)) i c lt at refl refl above below)
