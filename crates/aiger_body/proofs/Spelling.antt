-- Printed lines read back.
use Rattle.std.proofs.Common.{◌≡◌, ℕ, ◌^◌, ◌<◌, true, false, nat_eq, List, [], ◌∷◌, refl, ◌∙◌, ap, inl, inr, map, length, get_or, arith, Some, ◌⊎◌}
use Rattle.std.specs.Prelude.{decimal}
use Rattle.std.specs.List.{All, slice_split}
use Rattle.std.proofs.lemmas.Fmt.{decimal_is_IsNumeral}
use Rattle.std.proofs.lemmas.Str.Parse.{digit_at}
use Rattle.std.proofs.lemmas.List.Splits.{slice_split_at, slice_split_none}
use Rattle.std.proofs.lemmas.List.Elements.{All-from_get_or}
use Rattle.std.proofs.lemmas.Bool.{eqb-true, cases_Bool}
use Rattle.hy_text.specs.Numbers.{number_of}
use Rattle.hy_text.proofs.Digits.{number_said}
use Rattle.aiger_body.specs.Texts.{is_space, with_number, all_numbers, or_empty, numbers_of}
use Rattle.aiger_body.specs.Spelled.{AreShort, spelled}

wide : (n : ℕ) → n < 10 ^ 10 → n < 2 ^ 64
wide n lt = omega (arith, lt)

pub number-decimal : (n : ℕ) → n < 10 ^ 10 → number_of (decimal n) ≡ Some n
number-decimal n lt = number_said (decimal n) n (record { spelled = refl; short = lt })

-- digits are none of space, return and feed
pub no-digit : (n : ℕ) → n < 10 ^ 10 → (c : ℕ) → c < 48 → All (λ x. nat_eq x c ≡ false) (decimal n)
no-digit n lt c low = All-from_get_or (λ x. nat_eq x c ≡ false) (decimal n) 0 each
  where
    each : (i : ℕ) → i < length (decimal n) → nat_eq (get_or (decimal n) i 0) c ≡ false
    each i inside = other (cases_Bool (nat_eq (get_or (decimal n) i 0) c))
      where
        other : (nat_eq (get_or (decimal n) i 0) c ≡ true) ⊎ (nat_eq (get_or (decimal n) i 0) c ≡ false) → nat_eq (get_or (decimal n) i 0) c ≡ false
        other (inl same) =
            let range = digit_at (decimal n) i (decimal_is_IsNumeral n (wide n lt)).0.1 inside in
            absurd (omega (arith, range, eqb-true _ _ same))
        other (inr apart) = apart

words-spelled : (n : ℕ) (row : List ℕ) → AreShort (n ∷ row) → slice_split is_space (spelled (n ∷ row)) ≡ map decimal (n ∷ row)
words-spelled n [] (lt, short) = slice_split_none is_space (decimal n) (no-digit n lt 32 (omega arith))
words-spelled n (m ∷ row) (lt, short) =
    slice_split_at is_space (decimal n) 32 (spelled (m ∷ row)) (no-digit n lt 32 (omega arith)) refl ∙ ap (λ l. decimal n ∷ l) (words-spelled m row short)

all-decimal : (row : List ℕ) → AreShort row → all_numbers (map decimal row) ≡ Some row
all-decimal [] short = refl
all-decimal (n ∷ row) (lt, short) =
    ap (λ o. with_number o (all_numbers (map decimal row))) (number-decimal n lt) ∙ ap (with_number (Some n)) (all-decimal row short)

pub numbers-spelled : (n : ℕ) (row : List ℕ) → AreShort (n ∷ row) → numbers_of (spelled (n ∷ row)) ≡ n ∷ row
numbers-spelled n row short = ap (λ w. or_empty (all_numbers w)) (words-spelled n row short) ∙ ap or_empty (all-decimal (n ∷ row) short)
