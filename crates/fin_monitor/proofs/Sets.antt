-- Members of sets, and sets within others.
use Rattle.std.proofs.Common.{◌≡◌, ℕ, ◌⊎◌, ◌↔◌, true, false, inl, inr, sym, ◌∙◌}
use Rattle.std.specs.Ordering.{nat_cmp}
use Rattle.std.specs.Cmp.{nat_cmp_total}
use Rattle.std.specs.FinSet.{empty, insert, contains, contains-empty, union, contains-union, is_subset, is_subset-contains, contains-is_subset, same_set, nat_cmp-IsAntisymmetric}
use Rattle.std.proofs.lemmas.Bool.{cases_eq, or_cases, or_left, or_right}
use Rattle.hy_base.proofs.Truths.{same-truth}
use Rattle.hy_bits.specs.Sets.{NumberSet}
use Rattle.hy_bits.specs.BinaryLaws.{contains-insert_same, contains-insert_other}

abbrev pub Has : NumberSet → ℕ → Type 0
Has set k = contains set k ≡ true

pub has-new : (s : NumberSet) (k : ℕ) → Has (insert s k) k
has-new s k = contains-insert_same s k

pub has-cases : (s : NumberSet) (k q : ℕ) → Has (insert s k) q → (q ≡ k) ⊎ Has s q
has-cases s k q h =
    elim (cases_eq q k) [ inl e ↦ inl e | inr apart ↦ inr (sym (contains-insert_other s k q apart) ∙ h) ]

pub has-none : (k : ℕ) → ¬ Has empty k
has-none k h = let e : false ≡ true = sym (contains-empty nat_cmp k) ∙ h in cc

pub has-union : (s t : NumberSet) (k : ℕ) → Has (union s t) k ↔ (Has s k ⊎ Has t k)
has-union s t k = (
  λ h. or_cases (contains s k) (contains t k) (sym (contains-union nat_cmp_total s t k) ∙ h),
  λ h. contains-union nat_cmp_total s t k ∙ elim h [ inl a ↦ or_left (contains s k) (contains t k) a | inr b ↦ or_right (contains s k) (contains t k) b ],
)

pub subset-itself : (s : NumberSet) → is_subset s s ≡ true
subset-itself s = contains-is_subset nat_cmp_total s s (λ q h. h)

pub subset-through : (s t u : NumberSet) → is_subset s t ≡ true → is_subset t u ≡ true → is_subset s u ≡ true
subset-through s t u p q =
    contains-is_subset nat_cmp_total s u (λ k h. is_subset-contains nat_cmp_total t u q k (is_subset-contains nat_cmp_total s t p k h))

pub same-set : (s t : NumberSet) → is_subset s t ≡ true → is_subset t s ≡ true → s ≡ t
same-set s t a b =
    same_set nat_cmp_total nat_cmp-IsAntisymmetric s t
    (λ q. same-truth (contains s q) (contains t q) (is_subset-contains nat_cmp_total s t a q) (is_subset-contains nat_cmp_total t s b q))

pub union-within : (s t u v : NumberSet) → is_subset s u ≡ true → is_subset t v ≡ true → is_subset (union s t) (union u v) ≡ true
union-within s t u v p q =
    contains-is_subset nat_cmp_total (union s t) (union u v)
    (λ k h. (has-union u v k).1 (elim ((has-union s t k).0 h) [ inl a ↦ inl (is_subset-contains nat_cmp_total s u p k a) | inr b ↦ inr (is_subset-contains nat_cmp_total t v q k b) ]))
