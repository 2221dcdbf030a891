-- Members of sets.
use Rattle.std.proofs.Common.{◌≡◌, ◌≢◌, ℕ, ◌⊎◌, true, false, ◌||◌, inl, inr, refl, sym, ap, ◌∙◌, subst}
use Rattle.std.specs.Ordering.{nat_cmp}
use Rattle.std.specs.Cmp.{nat_cmp_total, unsigned_tied}
use Rattle.std.specs.FinSet.{insert, contains, contains-insert, contains-empty, empty}
use Rattle.std.proofs.lemmas.Bool.{eq-eqb, ne_eqb, cases_eq}
use Rattle.ltl_tableau.specs.Branches.{Members, Has}

pub has-new : (s : Members) (k : ℕ) → Has (insert s k) k
has-new s k = contains-insert nat_cmp_total s k k ∙ ap (λ b. b || contains s k) (unsigned_tied k k ∙ eq-eqb k k refl)

pub contains-other : (s : Members) (k q : ℕ) → q ≢ k → contains (insert s k) q ≡ contains s q
contains-other s k q apart = contains-insert nat_cmp_total s k q ∙ ap (λ b. b || contains s q) (unsigned_tied q k ∙ ne_eqb q k apart)

pub has-old : (s : Members) (k q : ℕ) → Has s q → Has (insert s k) q
has-old s k q h =
    elim (cases_eq q k) [
      | inl e ↦ let P : ℕ → Type 0 = Has (insert s k) in subst P (sym e) (has-new s k)
      | inr apart ↦ contains-other s k q apart ∙ h
    ]

pub has-cases : (s : Members) (k q : ℕ) → Has (insert s k) q → (q ≡ k) ⊎ Has s q
has-cases s k q h = elim (cases_eq q k) [ inl e ↦ inl e | inr apart ↦ inr (sym (contains-other s k q apart) ∙ h) ]

pub has-none : (k : ℕ) → ¬ Has empty k
has-none k h = let e : false ≡ true = sym (contains-empty nat_cmp k) ∙ h in cc
