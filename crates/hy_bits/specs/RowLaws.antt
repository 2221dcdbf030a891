-- What words of 64 bits say of the number that they are.
--     words_of-joined      the words of that number are the words
--     bit_at-joined, contains-members      its bits, and the members of its ones, by word and place
--     members-below      no member is past the words
use Rattle.std.proofs.Common.{◌≡◌, ℕ, suc, ◌+◌, ◌-◌, ◌*◌, ◌/◌, ◌%◌, ◌^◌, ◌<◌, ◌≤◌, true, List, [], ◌∷◌, length, get_or, nat_eq, refl, sym, ap, ◌∙◌, inl, inr, arith}
use Rattle.std.specs.Int.{bit_at}
use Rattle.std.specs.FinSet.{contains}
use Rattle.std.specs.Hash as fed
use Rattle.std.proofs.lemmas.Nat.{mod-mul-add}
use Rattle.std.proofs.lemmas.List.{get_or_past}
use Rattle.std.proofs.lemmas.Bool.{cases_lt, eqb-true}
use Rattle.std.proofs.lemmas.Nat.Bits.{bit_at-zero, bit_at_cat_low, bit_at_cat_high}
use Rattle.hy_bits.specs.Sets.{NumberSet, AreBelow}
use Rattle.hy_bits.specs.Binary.{number}
use Rattle.hy_bits.specs.BinaryLaws.{contains-ones, number-ones}
use Rattle.hy_bits.specs.Rows.{joined, members, words_of, AreWords}

later : (w : ℕ) (ws : List ℕ) → AreWords (w ∷ ws) → AreWords ws
later w ws fit j = fit (suc j)

div-joined : (n w : ℕ) → w < 2 ^ 64 → (n * 2 ^ 64 + w) / 2 ^ 64 ≡ n
div-joined n w fits = omega arith

pub words_of-joined : (ws : List ℕ) → AreWords ws → words_of (length ws) (joined ws) ≡ ws
words_of-joined [] fit = refl
words_of-joined (w ∷ ws) fit =
    (λ i. mod-mul-add (joined ws) (2 ^ 64) w (fit 0) i ∷ words_of (length ws)
    (div-joined (joined ws) w (fit 0) i))
    ∙ ap (λ vs. w ∷ vs) (words_of-joined ws (later w ws fit))

pub words_of-members : (n : ℕ) (ws : List ℕ) → length ws ≡ n → AreWords ws
    → words_of n (number (members ws)) ≡ ws
words_of-members n ws e fit = (λ i. words_of (sym e i) (number-ones (joined ws) i))
    ∙ words_of-joined ws fit

-- sets that `==` takes as equal are hashed alike
pub same_input : (n : ℕ) (s t : NumberSet) → nat_eq (number s) (number t) ≡ true
    → fed.slice fed.u64 (words_of n (number s)) ≡ fed.slice fed.u64 (words_of n (number t))
same_input n s t e = ap (λ m. fed.slice fed.u64 (words_of n m)) (eqb-true _ _ e)

-- a place of the first word, and one past it
first_word : (q : ℕ) → q < 64 → (q / 64 ≡ 0) × (q % 64 ≡ q)
first_word q low = (omega arith, omega arith)

later_word : (q : ℕ) → 64 ≤ q → (q / 64 ≡ suc ((q - 64) / 64)) × (q % 64 ≡ (q - 64) % 64)
later_word q high = (omega arith, omega arith)

pub bit_at-joined : (ws : List ℕ) (q : ℕ) → AreWords ws
    → bit_at (joined ws) q ≡ bit_at (get_or ws (q / 64) 0) (q % 64)
bit_at-joined [] q fit = bit_at-zero q ∙ sym (bit_at-zero (q % 64))
bit_at-joined (w ∷ ws) q fit =
    elim (cases_lt q 64) [
      | inl low ↦
          let (word, place) = first_word q low in
          bit_at_cat_low (joined ws) 64 w q low
          ∙ sym (λ i. bit_at (get_or (w ∷ ws) (word i) 0) (place i))
      | inr high ↦
          let (word, place) = later_word q high in
          bit_at_cat_high (joined ws) 64 w q (fit 0) high
          ∙ bit_at-joined ws (q - 64) (later w ws fit)
          ∙ sym (λ i. bit_at (get_or (w ∷ ws) (word i) 0) (place i))
    ]

-- the bit of the words at a place
abbrev pub bit : List ℕ → ℕ → ℕ
bit ws q = bit_at (get_or ws (q / 64) 0) (q % 64)

pub contains-members : (ws : List ℕ) (q : ℕ) → AreWords ws
    → contains (members ws) q ≡ nat_eq (bit ws q) 1
contains-members ws q fit = contains-ones (joined ws) q
    ∙ ap (λ b. nat_eq b 1) (bit_at-joined ws q fit)

pub members-below : (ws : List ℕ) → AreWords ws → AreBelow (64 * length ws) (members ws)
members-below ws fit q member =
    elim (cases_lt q (64 * length ws)) [
      | inl low ↦ low
      | inr high ↦
          let past : length ws ≤ q / 64 = omega arith in
          let none = contains-members ws q fit
          ∙ ap (λ w. nat_eq (bit_at w (q % 64)) 1) (get_or_past ws (q / 64) 0 past)
          ∙ ap (λ b. nat_eq b 1) (bit_at-zero (q % 64)) in
          absurd (cc (none, member))
    ]
