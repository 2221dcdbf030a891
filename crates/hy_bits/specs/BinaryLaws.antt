-- What `ones` and `number` do: a set is the ones of its number, and a number is the number of its ones.
--     contains-insert_same, contains-insert_other      whether a set with one more member has a number
--     contains-ones, has_one-number, bit_at-number      the members of a number's ones, and the ones of a set's number
--     ones-number, number-ones, same_members      the two are inverse; sets with the same members are equal
use Rattle.std.proofs.Common.{◌≡◌, ◌≢◌, ℕ, zero, suc, ◌^◌, ◌<◌, ◌≤◌, Bool, true, false, cond, ◌||◌, ◌&&◌, not, List, [], ◌∷◌, max, nat_eq, refl, sym, ap, ◌∙◌, inl, inr, subst}
use Rattle.std.specs.Int.{bit_at}
use Rattle.std.specs.List.{list_any}
use Rattle.std.specs.Ordering.{nat_cmp, eq_by_cmp}
use Rattle.std.specs.Cmp.{nat_cmp_total, unsigned_tied}
use Rattle.std.specs.FinSet.{insert, remove, contains, items, contains-empty, contains-insert, contains-remove, contains-items, same_set, nat_cmp-IsAntisymmetric}
use Rattle.std.proofs.Math.Arith.{lt_of_le-ne}
use Rattle.std.proofs.Math.Nat.{le_refl, lt_irrefl, lt-suc_self, zero-lt-suc, not-suc-le-zero, le_of_suc-le, le_of_suc-le-suc, lt_of_lt_of_le, lt_of_le_of_lt, le_trans, le-max_left, le-max_right, zero-max, max-zero}
use Rattle.std.proofs.Math.Pow.{pow_mono}
use Rattle.std.proofs.lemmas.Nat.{pow_below}
use Rattle.std.proofs.lemmas.Bool.{ne_eqb, eq-eqb, cases_eq, cases_lt}
use Rattle.std.proofs.lemmas.Nat.Bits.{bit_at_or, bit_at-zero, bit_at-pow_same, bit_at-pow_other, bit_at-lt, bit_at_above, same_from_bits}
use Rattle.hy_bits.specs.Sets.{NumberSet}
use Rattle.hy_bits.specs.Binary.{has_one, ones_below, ones, number_below, above_all, number}

apart_above : (k q : ℕ) → k < q → q ≢ k
apart_above k q lt e = let P : ℕ → Type 0 = λ j. k < j in lt_irrefl k (subst P e lt)

step_down : (q k : ℕ) → q < suc k → q ≢ k → q < k
step_down q k lt apart = lt_of_le-ne (le_of_suc-le-suc lt) apart

-- a number is below its power of 2
below_power : (n : ℕ) → n < 2 ^ n
below_power zero = zero-lt-suc zero
below_power (suc n) = lt_of_le_of_lt (below_power n) (pow_below n (suc n) (lt-suc_self n))

pub contains-insert_same : (s : NumberSet) (k : ℕ) → contains (insert s k) k ≡ true
contains-insert_same s k = contains-insert nat_cmp_total s k k
    ∙ ap (λ b. b || contains s k) (unsigned_tied k k ∙ eq-eqb k k refl)

pub contains-insert_other : (s : NumberSet) (k q : ℕ) → q ≢ k
    → contains (insert s k) q ≡ contains s q
contains-insert_other s k q apart = contains-insert nat_cmp_total s k q
    ∙ ap (λ b. b || contains s q) (unsigned_tied q k ∙ ne_eqb q k apart)

pub contains-remove_same : (s : NumberSet) (k : ℕ) → contains (remove s k) k ≡ false
contains-remove_same s k = contains-remove nat_cmp_total s k k
    ∙ ap (λ b. not b && contains s k) (unsigned_tied k k ∙ eq-eqb k k refl)

pub contains-remove_other : (s : NumberSet) (k q : ℕ) → q ≢ k
    → contains (remove s k) q ≡ contains s q
contains-remove_other s k q apart = contains-remove nat_cmp_total s k q
    ∙ ap (λ b. not b && contains s q) (unsigned_tied q k ∙ ne_eqb q k apart)

-- ---- a number's ones

ones_below-suc_other : (n k q : ℕ) → q ≢ k → contains (ones_below n (suc k)) q ≡ contains
    (ones_below n k) q
ones_below-suc_other n k q apart =
    elim (has_one n k) as (λ b. contains (cond b (insert (ones_below n k) k) (ones_below n k)) q ≡
    contains (ones_below n k) q) [
      | true ↦ contains-insert_other _ k q apart
      | false ↦ refl
    ]

above_ones_below : (n k q : ℕ) → k ≤ q → contains (ones_below n k) q ≡ false
above_ones_below n zero q le = contains-empty nat_cmp q
above_ones_below n (suc k) q le = ones_below-suc_other n k q (apart_above k q le)
    ∙ above_ones_below n k q (le_of_suc-le le)

ones_below-suc_same : (n k : ℕ) → contains (ones_below n (suc k)) k ≡ has_one n k
ones_below-suc_same n k =
    elim (has_one n k) as (λ b. contains (cond b (insert (ones_below n k) k) (ones_below n k)) k ≡
    b) [
      | true ↦ contains-insert_same _ k
      | false ↦ above_ones_below n k k (le_refl k)
    ]

contains-ones_below : (n k q : ℕ) → q < k → contains (ones_below n k) q ≡ has_one n q
contains-ones_below n zero q lt = absurd (not-suc-le-zero lt)
contains-ones_below n (suc k) q lt =
    elim (cases_eq q k) [
      | inl e ↦ let P : ℕ → Type 0 = λ j. contains (ones_below n (suc k)) j ≡ has_one n j in subst P
          (sym e) (ones_below-suc_same n k)
      | inr apart ↦ ones_below-suc_other n k q apart
          ∙ contains-ones_below n k q (step_down q k lt apart)
    ]

no_one_above : (n q : ℕ) → n ≤ q → has_one n q ≡ false
no_one_above n q le = ap (λ b. nat_eq b 1) (bit_at_above n q q
    (lt_of_lt_of_le (below_power n) (pow_mono le)) (le_refl q))

pub contains-ones : (n q : ℕ) → contains (ones n) q ≡ has_one n q
unfolding ones
contains-ones n q =
    elim (cases_lt q n) [
      | inl lt ↦ contains-ones_below n n q lt
      | inr le ↦ above_ones_below n n q le ∙ sym (no_one_above n q le)
    ]

-- ---- the number of a set

member_one : (b : Bool) (k : ℕ) → bit_at (cond b (2 ^ k) 0) k ≡ cond b 1 0
member_one true k = bit_at-pow_same k
member_one false k = bit_at-zero k

member_other : (b : Bool) (k q : ℕ) → q ≢ k → bit_at (cond b (2 ^ k) 0) q ≡ 0
member_other true k q apart = bit_at-pow_other k q apart
member_other false k q apart = bit_at-zero q

number_below-suc_other : (s : NumberSet) (k q : ℕ) → q ≢ k
    → bit_at (number_below s (suc k)) q ≡ bit_at (number_below s k) q
number_below-suc_other s k q apart =
    bit_at_or (cond (contains s k) (2 ^ k) 0) (number_below s k) q
    ∙ ap (λ b. max b (bit_at (number_below s k) q)) (member_other (contains s k) k q apart)
    ∙ zero-max _

above_number_below : (s : NumberSet) (k q : ℕ) → k ≤ q → bit_at (number_below s k) q ≡ 0
above_number_below s zero q le = bit_at-zero q
above_number_below s (suc k) q le = number_below-suc_other s k q (apart_above k q le)
    ∙ above_number_below s k q (le_of_suc-le le)

number_below-suc_same : (s : NumberSet) (k : ℕ)
    → bit_at (number_below s (suc k)) k ≡ cond (contains s k) 1 0
number_below-suc_same s k =
    bit_at_or (cond (contains s k) (2 ^ k) 0) (number_below s k) k
    ∙ ap (λ b. max (bit_at (cond (contains s k) (2 ^ k) 0) k) b)
    (above_number_below s k k (le_refl k))
    ∙ max-zero _
    ∙ member_one (contains s k) k

bit_at-number_below : (s : NumberSet) (k q : ℕ) → q < k
    → bit_at (number_below s k) q ≡ cond (contains s q) 1 0
bit_at-number_below s zero q lt = absurd (not-suc-le-zero lt)
bit_at-number_below s (suc k) q lt =
    elim (cases_eq q k) [
      | inl e ↦ let P : ℕ → Type 0 = λ j. bit_at (number_below s (suc k)) j ≡ cond (contains s j) 1
          0 in subst P (sym e) (number_below-suc_same s k)
      | inr apart ↦ number_below-suc_other s k q apart
          ∙ bit_at-number_below s k q (step_down q k lt apart)
    ]

above_member : (xs : List ℕ) (q : ℕ) → above_all xs ≤ q → list_any (eq_by_cmp nat_cmp q) xs ≡ false
above_member [] q le = refl
above_member (x ∷ xs) q le =
    ap (λ b. b || list_any (eq_by_cmp nat_cmp q) xs)
    (unsigned_tied q x ∙ ne_eqb q x (apart_above x q
    (le_trans (le-max_left (suc x) (above_all xs)) le)))
    ∙ above_member xs q (le_trans (le-max_right (suc x) (above_all xs)) le)

above_members : (s : NumberSet) (q : ℕ) → above_all (items s) ≤ q → contains s q ≡ false
above_members s q le = contains-items s q ∙ above_member (items s) q le

pub bit_at-number : (s : NumberSet) (q : ℕ) → bit_at (number s) q ≡ cond (contains s q) 1 0
unfolding number
bit_at-number s q =
    elim (cases_lt q (above_all (items s))) [
      | inl lt ↦ bit_at-number_below s _ q lt
      | inr le ↦ above_number_below s _ q le ∙ sym (ap (λ b. cond b 1 0) (above_members s q le))
    ]

pub has_one-number : (s : NumberSet) (q : ℕ) → has_one (number s) q ≡ contains s q
has_one-number s q = ap (λ b. nat_eq b 1) (bit_at-number s q) ∙ one_of (contains s q)
  where
    one_of : (b : Bool) → nat_eq (cond b 1 0) 1 ≡ b
    one_of true = refl
    one_of false = refl

-- ---- a set is the ones of its number, and a number is the number of its ones

pub same_members : (s t : NumberSet) → ((q : ℕ) → contains s q ≡ contains t q) → s ≡ t
same_members s t = same_set nat_cmp_total nat_cmp-IsAntisymmetric s t

pub ones-number : (s : NumberSet) → ones (number s) ≡ s
ones-number s = same_members _ _ (λ q. contains-ones (number s) q ∙ has_one-number s q)

bit_is : (b : ℕ) → b < 2 → cond (nat_eq b 1) 1 0 ≡ b
bit_is zero lt = refl
bit_is (suc zero) lt = refl
bit_is (suc (suc b)) lt = absurd (not-suc-le-zero (le_of_suc-le-suc (le_of_suc-le-suc lt)))

pub number-ones : (n : ℕ) → number (ones n) ≡ n
number-ones n =
    same_from_bits _ _ (λ q. bit_at-number (ones n) q ∙ ap (λ b. cond b 1 0) (contains-ones n q)
    ∙ bit_is (bit_at n q) (bit_at-lt n q))
