-- Steps of loops over names.
use Rattle.std.proofs.Common.{◌≡◌, ℕ, zero, suc, ◌+◌, ◌<◌, ◌&&◌, Bool, false, List, [], ◌∷◌, ◌++◌, map, take, length, get_or, Bor, refl, sym, ap, ◌∙◌, arith, append_assoc}
use Rattle.std.proofs.lemmas.List.{take_more, map-append}
use Rattle.std.specs.List.{list_all}
use Rattle.clap.specs.Walk.{Rule}
use Rattle.clap.specs.Simple.{App, with_rule}
use Rattle.hy_base.proofs.Truths.{and-false}
use Rattle.hy_words.specs.Words.{Text}
use Rattle.hy_words.specs.Parsers.{taking}

-- A name that does not pass.
pub fails_at : (p : Text → Bool) (names : List (Bor Text)) (i : ℕ) (d : Bor Text) → i < length names → p (get_or names i d).now ≡ false
    → list_all p (map (λ n. n.now) names) ≡ false
fails_at p [] i d lt e = absurd (omega arith)
fails_at p (n ∷ names) zero d lt e = rw e refl
fails_at p (n ∷ names) (suc i) d lt e = ap (λ b. p n.now && b) (fails_at p names i d (omega arith) e) ∙ and-false (p n.now)

-- One more argument.
pub one_more : (make : Text → Rule) (front : List Rule) (names : List (Bor Text)) (i : ℕ) (d : Bor Text) (old new : App) (r : Rule) → i < length names
    → old ≡ taking (front ++ map make (map (λ n. n.now) (take i names))) → new ≡ with_rule old r → r ≡ make (get_or names i d).now
    → new ≡ taking (front ++ map make (map (λ n. n.now) (take (i + 1) names)))
one_more make front names i d old new r lt e f g =
    let here : map make (map (λ n. n.now) (take (i + 1) names)) ≡ map make (map (λ n. n.now) (take i names)) ++ make (get_or names i d).now ∷ [] =
    ap (λ ns. map make (map (λ (n : Bor Text). n.now) ns)) (take_more names i d lt)
    ∙ ap (map make) (map-append (λ (n : Bor Text). n.now) (take i names) (get_or names i d ∷ []))
    ∙ map-append make (map (λ (n : Bor Text). n.now) (take i names)) ((get_or names i d).now ∷ []) in
    f ∙ (λ t. with_rule (e t) (g t))
    ∙ ap taking (append_assoc front (map make (map (λ n. n.now) (take i names))) (make (get_or names i d).now ∷ []) ∙ ap (λ rs. front ++ rs) (sym here))
