-- What can be named stands at a place of its own.
use Rattle.std.proofs.Common.{◌≡◌, ℕ, zero, suc, ◌+◌, ◌<◌, ◌≤◌, ◌^◌, Bool, true, false, not, nat_eq, inl, inr, refl, sym, ◌∙◌, ap, arith, cond, List, [], ◌∷◌, length, get_or, take}
use Rattle.std.specs.Prelude.{slice_index, sum}
use Rattle.std.specs.List.{position_or_len, prefix_len}
use Rattle.std.proofs.lemmas.Bool.{cases_eq, cases_lt, eqb-true}
use Rattle.std.proofs.lemmas.List.Sums.{sum_by-cons}
use Rattle.aiger_body.specs.declared.header.Header.{Header}
use Rattle.aiger_body.specs.Symbols.{letters, kind_number, symbol_counts, count_of}
use Rattle.aiger_body.specs.Answers.{IsShort}
use Rattle.aiger_read.specs.Symbols.{start_of}

-- what is found at its place in a list is there
at-place : (a : ℕ) (xs : List ℕ) → position_or_len (nat_eq a) xs < length xs → get_or xs (position_or_len (nat_eq a) xs) 0 ≡ a
at-place a [] lt = absurd (omega arith)
at-place a (x ∷ xs) lt = step (at-place a xs) (nat_eq a x) refl lt
  where
    step : (position_or_len (nat_eq a) xs < length xs → get_or xs (position_or_len (nat_eq a) xs) 0 ≡ a) → (b : Bool) → nat_eq a x ≡ b → cond (not b) (1 + prefix_len (λ y. not (nat_eq a y)) xs) 0 < suc (length xs) → get_or (x ∷ xs) (cond (not b) (1 + prefix_len (λ y. not (nat_eq a y)) xs) 0) 0 ≡ a
    step more true e lt = sym (eqb-true a x e)
    step more false e lt =
        let q : 1 + prefix_len (λ y. not (nat_eq a y)) xs ≡ suc (prefix_len (λ y. not (nat_eq a y)) xs) = omega arith in
        ap (λ n. get_or (x ∷ xs) n 0) q ∙ more (omega arith)

-- the counts before a kind have those of each earlier one among them
part-before : (cs : List ℕ) (i j : ℕ) → i < j → sum (take i cs) + slice_index cs i ≤ sum (take j cs)
part-before cs i zero lt = absurd (omega arith)
part-before [] zero (suc j) lt = omega arith
part-before [] (suc i) (suc j) lt = omega arith
part-before (n ∷ cs) zero (suc j) lt = omega (arith, sum_by-cons (λ x. x) n (take j cs))
part-before (n ∷ cs) (suc i) (suc j) lt = omega (arith, part-before cs i j (omega arith), sum_by-cons (λ x. x) n (take i cs), sum_by-cons (λ x. x) n (take j cs))

part-whole : (cs : List ℕ) (i : ℕ) → sum (take i cs) + slice_index cs i ≤ sum cs
part-whole [] zero = omega arith
part-whole [] (suc i) = omega arith
part-whole (n ∷ cs) zero = omega (arith, sum_by-cons (λ x. x) n cs)
part-whole (n ∷ cs) (suc i) = omega (arith, part-whole cs i, sum_by-cons (λ x. x) n cs, sum_by-cons (λ x. x) n (take i cs))

past-none : (cs : List ℕ) (i : ℕ) → length cs ≤ i → slice_index cs i ≡ 0
past-none [] zero le = refl
past-none [] (suc i) le = refl
past-none (n ∷ cs) zero le = absurd (omega arith)
past-none (n ∷ cs) (suc i) le = past-none cs i (omega arith)

pub place_small : (h : Header) (letter n : ℕ) → n < count_of h letter → start_of h letter + n < sum (symbol_counts h)
place_small h letter n lt = omega (arith, part-whole (symbol_counts h) (kind_number letter), lt)

count-at : (h : Header) → IsShort h → (i : ℕ) → slice_index (symbol_counts h) i < 10 ^ 10
count-at h short zero = short.inputs
count-at h short (suc zero) = short.latches
count-at h short (suc (suc zero)) = short.outputs
count-at h short (suc (suc (suc zero))) = short.bads
count-at h short (suc (suc (suc (suc zero)))) = short.constraints
count-at h short (suc (suc (suc (suc (suc zero))))) = short.justices
count-at h short (suc (suc (suc (suc (suc (suc zero)))))) = short.fairs
count-at h short (suc (suc (suc (suc (suc (suc (suc i))))))) = omega arith

pub count_small : (h : Header) → IsShort h → (letter : ℕ) → count_of h letter < 10 ^ 10
count_small h short letter = count-at h short (kind_number letter)

module _ (h : Header) (a b n m : ℕ) (first : n < count_of h a) (second : m < count_of h b) (same : start_of h a + n ≡ start_of h b + m) where
  known : (letter k : ℕ) → k < count_of h letter → kind_number letter < 7
  known letter k lt = elim (cases_lt (kind_number letter) 7) [
    | inl small ↦ small
    | inr large ↦ absurd (omega (arith, lt, past-none (symbol_counts h) (kind_number letter) large))
  ]

  kinds : kind_number a ≡ kind_number b
  kinds = elim (cases_eq (kind_number a) (kind_number b)) [
    | inl is ↦ is
    | inr other ↦ elim (cases_lt (kind_number a) (kind_number b)) [
      | inl less ↦ absurd (omega (arith, part-before (symbol_counts h) (kind_number a) (kind_number b) less, same, first))
      | inr more ↦ absurd (omega (arith, part-before (symbol_counts h) (kind_number b) (kind_number a) (omega arith), same, second))
    ]
  ]

  pub letter_same : a ≡ b
  letter_same = sym (at-place a letters (known a n first)) ∙ ap (λ k. get_or letters k 0) kinds ∙ at-place b letters (known b m second)

  pub number_same : n ≡ m
  number_same = omega (arith, same, ap (λ k. sum (take k (symbol_counts h))) kinds)
