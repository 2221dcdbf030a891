-- Letters are equal where the test says so.
use Rattle.std.proofs.Common.{◌≡◌, ℕ, ◌<◌, List, [], ◌∷◌, length, drop, true, false, refl, sym, ap, ◌∙◌, inl, inr}
use Rattle.std.proofs.lemmas.Bool.{and_parts, and_from, cases_Bool}
use Rattle.std.specs.FinSet.{is_subset, contains, is_subset-contains, contains-is_subset, same_set, nat_cmp-IsAntisymmetric}
use Rattle.std.specs.Cmp.{nat_cmp_total}
use Rattle.hy_base.proofs.Truths.{same-truth}
use Rattle.hy_bits.specs.Letter.{Letter}
use Rattle.hy_bits.specs.Sets.{AreBelow}
use Rattle.trace_trie.specs.Numbered.{same_letter}

pub equal-letter : (a b : Letter) → same_letter a b ≡ true → a ≡ b
equal-letter a b e =
    let (p, q) = and_parts (is_subset a b) (is_subset b a) e in
    same_set nat_cmp_total nat_cmp-IsAntisymmetric a b
    (λ k. same-truth (contains a k) (contains b k) (is_subset-contains nat_cmp_total a b p k) (is_subset-contains nat_cmp_total b a q k))

pub letter-itself : (a : Letter) → same_letter a a ≡ true
letter-itself a =
    let e = contains-is_subset nat_cmp_total a a (λ q h. h) in
    and_from (is_subset a a) (is_subset a a) e e

pub same-false : (a b : Letter) → (b ≡ a → ⊥) → same_letter a b ≡ false
same-false a b apart = elim (cases_Bool (same_letter a b)) [
  | inl e ↦ absurd (apart (sym (equal-letter a b e)))
  | inr e ↦ e
]

-- letters of which one has a name that the other lacks
pub apart-by : (a b : Letter) (name : ℕ) → contains a name ≡ false → contains b name ≡ true → b ≡ a → ⊥
apart-by a b name lacks has same =
    let e : contains b name ≡ contains a name = ap (λ (q : Letter). contains q name) same in
    absurd (cc)

-- letters of names below 64 that have the same ones
pub same-below : (a b : Letter) → AreBelow 64 a → AreBelow 64 b → ((k : ℕ) → k < 64 → contains a k ≡ contains b k) → a ≡ b
same-below a b h g same =
    same_set nat_cmp_total nat_cmp-IsAntisymmetric a b
    (λ k. same-truth (contains a k) (contains b k) (λ e. sym (same k (h k e)) ∙ e) (λ e. same k (g k e) ∙ e))

-- ---- what is left of a trace

pub drop-end : {A : Type 0} (t : List A) (i : ℕ) → i ≡ length t → drop i t ≡ []
drop-end t i e = ap (λ k. drop k t) e ∙ all t
  where
    all : {A : Type 0} (t : List A) → drop (length t) t ≡ []
    all [] = refl
    all (b ∷ t) = all t
