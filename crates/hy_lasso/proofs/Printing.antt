-- Lassos printed one after another.
use Rattle.std.proofs.Common.{◌≡◌, ℕ, ◌+◌, ◌<◌, List, [], ◌∷◌, ◌++◌, length, get_or, take, sym, ap, ◌∙◌}
use Rattle.std.proofs.lemmas.List.{append_assoc, append-nil}
use Rattle.hy_bits.specs.Letter.{Letter}
use Rattle.hy_formula.specs.Lassos.{Lasso}
use Rattle.hy_lasso.specs.Printed.{printed_lasso, printed_lassos}
use Rattle.hy_lasso.proofs.Periods.{front-more}

printed-push : (table : List (List ℕ)) (ls : List (Lasso Letter)) (l : Lasso Letter)
    → printed_lassos table (ls ++ l ∷ []) ≡ printed_lassos table ls ++ printed_lasso table l
printed-push table [] l = append-nil (printed_lasso table l)
printed-push table (x ∷ ls) l = ap (λ t. printed_lasso table x ++ t) (printed-push table ls l)
    ∙ sym (append_assoc (printed_lasso table x) (printed_lassos table ls) (printed_lasso table l))

-- one line more
pub printed-more : (table : List (List ℕ)) (list : List (Lasso Letter)) (i : ℕ) (l : Lasso Letter)
    (old new : List ℕ) → i < length list → l ≡ get_or list i l
    → old ≡ printed_lassos table (take i list) → new ≡ old ++ printed_lasso table l
    → new ≡ printed_lassos table (take (i + 1) list)
printed-more table list i l old new lt is before added =
    added ∙ ap (λ t. t ++ printed_lasso table l) before ∙ sym (printed-push table (take i list) l)
    ∙ ap (printed_lassos table) (sym (front-more list i l lt is))
