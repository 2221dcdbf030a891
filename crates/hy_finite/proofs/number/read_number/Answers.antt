use Rattle.std.proofs.Common.{◌≡◌, ℕ, Bool, true, false, List, [], ◌∷◌, ◌&&◌, cond, refl, ap, ◌∙◌}
use Rattle.std.specs.List.{list_all, take_while}
use Rattle.std.proofs.lemmas.List.Sums.{take_while-cons}
use Rattle.hy_text.specs.Bytes.{is_digit}
use Rattle.hy_finite.proofs.number.read_number.Goals as goal

-- What is taken while it passes passes.
all-taken : (p : ℕ → Bool) (xs : List ℕ) → list_all p (take_while p xs) ≡ true
all-taken p [] = refl
all-taken p (x ∷ xs) = ap (list_all p) (take_while-cons p x xs) ∙ step (p x) refl (all-taken p xs)
  where
    step : (b : Bool) → p x ≡ b → list_all p (take_while p xs) ≡ true
        → list_all p (cond b (x ∷ take_while p xs) []) ≡ true
    step true passes more = ap (λ b. b && list_all p (take_while p xs)) passes ∙ more
    step false fails more = refl

pub decimal-requires-clause-digits : goal.decimal-requires-clause-digits
decimal-requires-clause-digits c =
    ap (list_all is_digit) c.split.ensures.run ∙ all-taken is_digit c.args.text.now
