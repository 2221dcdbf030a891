-- Sets with the same members below n, and none above, are one.
use Rattle.std.proofs.Common.{◌≡◌, ℕ, ◌<◌, inl, inr, sym, ◌∙◌, arith}
use Rattle.std.specs.FinSet.{contains, same_set, nat_cmp-IsAntisymmetric}
use Rattle.std.specs.Cmp.{nat_cmp_total}
use Rattle.std.proofs.lemmas.Bool.{cases_lt, false_from_ne_true}
use Rattle.ltl_tableau.specs.Branches.{Members, Has}

pub same-members : (n : ℕ) (s t : Members) → ((k : ℕ) → Has s k → k < n) → ((k : ℕ) → Has t k → k < n)
    → ((k : ℕ) → k < n → contains s k ≡ contains t k) → s ≡ t
same-members n s t inside inside' same = same_set nat_cmp_total nat_cmp-IsAntisymmetric s t at
  where
    at : (q : ℕ) → contains s q ≡ contains t q
    at q =
        elim (cases_lt q n) [
          | inl lt ↦ same q lt
          | inr past ↦ false_from_ne_true _ (λ h. omega (arith, inside q h)) ∙ sym (false_from_ne_true _ (λ h. omega (arith, inside' q h)))
        ]
