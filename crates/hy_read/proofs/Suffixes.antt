-- Whether an element passes a test, by the longest end in which none does.
use Rattle.std.proofs.Common.{◌≡◌, ℕ, ◌-◌, refl, Bool, not, nat_lt, List, [], ◌∷◌, length, reverse, arith}
use Rattle.std.specs.List.{list_any, prefix_len, suffix_len}
use Rattle.std.proofs.lemmas.Bool.Decides.{nat_tests}
use Rattle.std.proofs.lemmas.List.Folds.{list_any-append}
use Rattle.std.proofs.lemmas.Grind.{common_steps}

pub any_by_prefix : (p : ℕ → Bool) (xs : List ℕ) → list_any p xs ≡ nat_lt (prefix_len (λ x. not (p x)) xs) (length xs)
any_by_prefix p [] = refl
any_by_prefix p (x ∷ xs) = grind (arith, nat_tests, any_by_prefix p xs)

pub any-reverse : (p : ℕ → Bool) (xs : List ℕ) → list_any p (reverse xs) ≡ list_any p xs
any-reverse p [] = refl
any-reverse p (x ∷ xs) = grind (arith, common_steps, list_any-append p (reverse xs) (x ∷ []), any-reverse p xs)

pub any_by_suffix : (p : ℕ → Bool) (xs : List ℕ) → list_any p xs ≡ nat_lt 0 (length xs - suffix_len (λ x. not (p x)) xs)
any_by_suffix p xs = grind (arith, nat_tests, common_steps, any-reverse p xs, any_by_prefix p (reverse xs))
