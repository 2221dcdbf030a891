-- Reading a number digit by digit.
use Rattle.std.proofs.Common.{◌≡◌, ℕ, suc, ◌+◌, ◌*◌, ◌-◌, ◌^◌, ◌<◌, ◌≤◌, true, List, [], ◌∷◌, length, take, get_or, inl, inr, ap, ◌∙◌, arith}
use Rattle.std.specs.List.{list_all}
use Rattle.std.proofs.lemmas.List.{take_more}
use Rattle.std.proofs.lemmas.List.Sums.{fold-append}
use Rattle.std.proofs.Math.Nat.{pow-suc, pow-le-pow_right}
use Rattle.std.proofs.Math.Numerals.{add-one}
use Rattle.std.proofs.lemmas.Bool.{cases_Bool}
use Rattle.std.proofs.lemmas.Bool.Decides.{nat_tests}
use Rattle.std.proofs.lemmas.List.Folds.{list_all_at}
use Rattle.hy_text.specs.Bytes.{is_digit}
use Rattle.hy_finite.specs.EventLines.{decimal}

-- one digit more
pub decimal-more : (digits : List ℕ) (i : ℕ) → i < length digits
    → decimal (take (i + 1) digits) ≡ decimal (take i digits) * 10 + (get_or digits i 0 - 48)
decimal-more digits i lt =
    ap decimal (take_more digits i 0 lt)
    ∙ fold-append (λ n digit. n * 10 + (digit - 48)) 0 (take i digits) (get_or digits i 0 ∷ [])

-- a digit stands for a number below 10
pub digit-fits : (digits : List ℕ) (i : ℕ) → list_all is_digit digits ≡ true → i < length digits
    → get_or digits i 0 - 48 < 10
digit-fits digits i all lt = within (get_or digits i 0) (passes digits i all lt)
  where
    passes : (xs : List ℕ) (i : ℕ) → list_all is_digit xs ≡ true → i < length xs
        → is_digit (get_or xs i 0) ≡ true
    passes xs i all lt =
        elim (cases_Bool (is_digit (get_or xs i 0))) [
          | inl e ↦ e
          | inr e ↦ cc
              (all, list_all_at is_digit xs i 0 lt e)
        ]

    within : (b : ℕ) → is_digit b ≡ true → b - 48 < 10
    within b is = grind (arith, nat_tests)

-- ten times a number of i digits, and a digit, where there are at most 8 before
pub room : (n d i : ℕ) → n < 10 ^ i → d < 10 → i < 9
    → (n * 10 + d < 2 ^ 32) × (n * 10 + d < 10 ^ (i + 1))
room n d i fits digit few =
    let next : 10 ^ suc i ≡ 10 ^ i * 10 = pow-suc 10 i in
    let at_most : 10 ^ i ≤ 10 ^ 8 = pow-le-pow_right {n = 10} (omega arith) {i = i} {j = 8}
    (omega arith) in
    (omega arith, rw (add-one i) (omega arith))
