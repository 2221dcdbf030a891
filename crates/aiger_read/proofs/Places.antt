-- Places of numbers in a list, from the last one on.
use Rattle.std.proofs.Common.{◌≡◌, ℕ, zero, suc, ◌+◌, ◌<◌, not, nat_eq, inl, inr, refl, sym, ◌∙◌, ap, arith, cond, List, length, get_or, drop, replicate}
use Rattle.std.specs.Prelude.{slice_index, slice_index_or, slice_set}
use Rattle.std.specs.List.{position_or_len}
use Rattle.std.proofs.lemmas.Bool.{eqb-true, eq-eqb, cases_Bool}
use Rattle.std.proofs.lemmas.List.{get_or-set_same, get_or-set_other}
use Rattle.std.proofs.Math.Seq.{drop-cons}

-- one more number is placed
pub placed_more : (xs places : List ℕ) (count place n : ℕ) → place < length xs → n ≡ suc place → slice_index xs place < length places → ((v : ℕ) → slice_index_or places v count ≡ n + position_or_len (nat_eq v) (drop n xs)) → (v : ℕ) → slice_index_or (slice_set places (slice_index xs place) place) v count ≡ place + position_or_len (nat_eq v) (drop place xs)
placed_more xs places count place n inside next small before v =
    elim (cases_Bool (nat_eq v x)) [
      | inl same ↦
          ap (λ i. slice_index_or (slice_set places x place) i count) (eqb-true v x same)
          ∙ get_or-set_same places x place count small
          ∙ (let none : place ≡ place + 0 = omega arith in none)
          ∙ ap (λ b. place + cond (not b) (1 + position_or_len (nat_eq v) (drop (suc place) xs)) 0) (sym same)
          ∙ ap (λ l. place + position_or_len (nat_eq v) l) (sym (drop-cons xs place 0 inside))
      | inr other ↦
          get_or-set_other places x v place count (λ same. absurd (let yes_same = eq-eqb v x same in cc))
          ∙ before v
          ∙ ap (λ m. m + position_or_len (nat_eq v) (drop m xs)) next
          ∙ (let more : suc place + position_or_len (nat_eq v) (drop (suc place) xs) ≡ place + (1 + position_or_len (nat_eq v) (drop (suc place) xs)) = omega arith in more)
          ∙ ap (λ b. place + cond (not b) (1 + position_or_len (nat_eq v) (drop (suc place) xs)) 0) (sym other)
          ∙ ap (λ l. place + position_or_len (nat_eq v) l) (sym (drop-cons xs place 0 inside))
    ]
  where
    x : ℕ
    x = get_or xs place 0

pub filled_same : (n x v : ℕ) → slice_index_or (replicate n x) v x ≡ x
filled_same zero x v = refl
filled_same (suc n) x zero = refl
filled_same (suc n) x (suc v) = filled_same n x v
