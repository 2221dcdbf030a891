-- Numbers by keys of which the greatest stands for the least.
use Rattle.std.proofs.Common.{◌≡◌, ℕ, ◌-◌, ◌<◌, ◌≤◌, ◌^◌, true, false, ◌||◌, nat_eq, refl, sym, ◌∙◌, ap, arith, List, [], ◌∷◌, length}
use Rattle.std.specs.List.Sorted.{IsPermutation}
use Rattle.std.specs.BinaryHeap.{IsUpperBound}
use Rattle.std.specs.Ordering.{nat_cmp}
use Rattle.std.proofs.lemmas.Bool.{eqb-true, eq-eqb}
use Rattle.std.proofs.lemmas.List.Sorted.{list_any-IsPermutation, le_from_greatest}
use Rattle.hy_base.proofs.Truths.{same-truth}
use Rattle.aig_order.specs.Takings.{has}
use Rattle.aig_order.proofs.Firsts.{holds-place}

same-key : (j k key : ℕ) → j < 2 ^ 32 → k < 2 ^ 32 → key ≡ 4294967295 - k → nat_eq (4294967295 - j) key ≡ nat_eq j k
same-key j k key low small is = same-truth _ _
    (λ e. eq-eqb j k (omega (arith, eqb-true _ _ e, is)))
    (λ e. eq-eqb _ _ (omega (arith, eqb-true j k e, is)))

pub has_pushed : (old new : List ℕ) (k key : ℕ) → k < 2 ^ 32 → key ≡ 4294967295 - k → IsPermutation (key ∷ old) new → (j : ℕ) → j < 2 ^ 32 → has new j ≡ (nat_eq j k || has old j)
has_pushed old new k key small is perm j low =
    sym (list_any-IsPermutation (nat_eq (4294967295 - j)) (key ∷ old) new perm) ∙ ap (λ b. b || has old j) (same-key j k key low small is)

pub has_popped : (old new : List ℕ) (k key : ℕ) → k < 2 ^ 32 → key ≡ 4294967295 - k → IsPermutation old (key ∷ new) → (j : ℕ) → j < 2 ^ 32 → has old j ≡ (nat_eq j k || has new j)
has_popped old new k key small is perm j low =
    list_any-IsPermutation (nat_eq (4294967295 - j)) old (key ∷ new) perm ∙ ap (λ b. b || has new j) (same-key j k key low small is)

pub least_popped : (old : List ℕ) (k key : ℕ) → k ≡ 4294967295 - key → IsUpperBound nat_cmp key old → (j : ℕ) → j < 2 ^ 32 → has old j ≡ true → k ≤ j
least_popped old k key is bound j low e =
    let (p, lt, at) = holds-place (4294967295 - j) old e in
    let all = le_from_greatest key old bound in
    omega (arith, all p 0 lt, at, is)

pub has_none : (keys : List ℕ) → length keys ≡ 0 → (j : ℕ) → has keys j ≡ false
has_none [] e j = refl
has_none (x ∷ keys) e j = absurd (omega arith)
