-- The numbers of a letter's names are the letter.
use Rattle.std.proofs.Common.{◌≡◌, ◌≢◌, ℕ, suc, ◌+◌, ◌<◌, Bool, true, false, ◌&&◌, ◌||◌, nat_le, if◌then◌else◌, IsTrue, ◌⊎◌, inl, inr, List, [], ◌∷◌, map, length, slice_get, Some, refl, ap, sym, ◌∙◌, subst, arith}
use Rattle.std.specs.List.{fold, All}
use Rattle.std.proofs.lemmas.List.Elements.{All-head, All-tail}
use Rattle.std.specs.FinSet as set
use Rattle.std.specs.Ordering.{nat_cmp}
use Rattle.std.proofs.lemmas.Bool.{cases_order}
use Rattle.std.proofs.lemmas.Bool.Decides.{nat_tests}
use Rattle.hy_bits.specs.Letter.{Letter}
use Rattle.hy_bits.specs.BinaryLaws.{contains-insert_same, contains-insert_other, same_members}
use Rattle.hy_formula.specs.Names.{are_distinct, place_of}
use Rattle.hy_formula.proofs.Names.{get-place_of}
use Rattle.hy_text.specs.Sets.{IsOver, letter_of, members_from, members_of, with_member, with_number}

-- the numbers from k on
abbrev From : ℕ → Letter → ℕ → Bool
From k letter q = nat_le k q && set.contains letter q

here_or_later : (a c : Bool) (k q : ℕ) → (q ≡ k → ⊥) → (a || (nat_le (suc k) q && c)) ≡ (a || (nat_le k q && c))
here_or_later a c k q other =
    let same : nat_le (suc k) q ≡ nat_le k q = grind (arith, nat_tests) in
    ap (λ b. a || (b && c)) same

not_later : (k : ℕ) → nat_le (suc k) k ≡ false
not_later k = grind (arith, nat_tests)

here : (k : ℕ) → nat_le k k ≡ true
here k = grind (arith, nat_tests)

none_left : (a c : Bool) (k q : ℕ) → (c ≡ true → q < k + 0) → a ≡ (a || (nat_le k q && c))
none_left true c k q below = refl
none_left false false k q below = elim (nat_le k q) as (λ b. false ≡ (b && false)) [ true ↦ refl | false ↦ refl ]
none_left false true k q below =
    let less = below refl in
    let test : nat_le k q ≡ false = grind (arith, nat_tests) in
    ap (λ b. b && true) (sym test)

or_true : (a : Bool) → true ≡ (a || true)
or_true true = refl
or_true false = refl

abbrev none : Letter
none = set.empty

from_start : (letter : Letter) (q : ℕ) → (set.contains none q || From 0 letter q) ≡ set.contains letter q
from_start letter q = let all : nat_le 0 q ≡ true = grind (arith, nat_tests) in ap (λ b. set.contains none q || (b && set.contains letter q)) all ∙ ap (λ b. b || set.contains letter q) (set.contains-empty nat_cmp q)

module _ (table : List (List ℕ)) (letter : Letter) (q : ℕ) (distinct : IsTrue (are_distinct table)) where
  abbrev Folds : Letter → ℕ → List (List ℕ) → Type 0
  Folds a k names = set.contains (fold (with_member table) a (members_from k letter names)) q ≡ (set.contains a q || From k letter q)

  kept : (a : Letter) (k : ℕ) (name : List ℕ) → place_of name table ≡ Some k → set.contains letter k ≡ true → (set.contains (with_member table a name) q || From (suc k) letter q) ≡ (set.contains a q || From k letter q)
  kept a k name placed has =
      let is : with_member table a name ≡ set.insert a k = ap (λ o. with_number o a) placed in
      rw is (elim (same_or_not q k) [
        | inl e ↦ rw e (rw (contains-insert_same a k, here k, has) (or_true (set.contains a k)))
        | inr other ↦ rw (contains-insert_other a k q other) (here_or_later (set.contains a q) (set.contains letter q) k q other)
      ])
    where
      same_or_not : (q k : ℕ) → (q ≡ k) ⊎ (q ≢ k)
      same_or_not q k = elim (cases_order q k) [ inl e ↦ inl e | inr o ↦ elim o [ inl l ↦ inr (λ e. omega arith) | inr g ↦ inr (λ e. omega arith) ] ]

  passed : (a : Letter) (k : ℕ) → set.contains letter k ≡ false → (set.contains a q || From (suc k) letter q) ≡ (set.contains a q || From k letter q)
  passed a k lacks = elim (cases_order q k) [
    | inl e ↦ rw e (rw (not_later k, here k, lacks) refl)
    | inr o ↦ here_or_later (set.contains a q) (set.contains letter q) k q (λ e. elim o [ inl l ↦ omega arith | inr g ↦ omega arith ])
  ]

  folds : (names : List (List ℕ)) (a : Letter) (k : ℕ) → (set.contains letter q ≡ true → q < k + length names) → ((i : ℕ) (x : List ℕ) → slice_get names i ≡ Some x → slice_get table (k + i) ≡ Some x) → Folds a k names
  folds [] a k below places = none_left (set.contains a q) (set.contains letter q) k q below
  folds (name ∷ names) a k below places =
      let first : slice_get table k ≡ Some name = subst (λ n. slice_get table n ≡ Some name) (omega arith) (places 0 name refl) in
      let placed = get-place_of name table k distinct first in
      let next_below : set.contains letter q ≡ true → q < suc k + length names = λ e. let b = below e in omega arith in
      let next : (i : ℕ) (x : List ℕ) → slice_get names i ≡ Some x → slice_get table (suc k + i) ≡ Some x =
      λ i x e. subst (λ n. slice_get table n ≡ Some x) (omega arith) (places (suc i) x e) in
      through (set.contains letter k) refl placed (folds names (with_member table a name) (suc k) next_below next) (folds names a (suc k) next_below next)
    where
      through : (b : Bool) → set.contains letter k ≡ b → place_of name table ≡ Some k → Folds (with_member table a name) (suc k) names → Folds a (suc k) names → set.contains (fold (with_member table) a (if b then name ∷ members_from (suc k) letter names else members_from (suc k) letter names)) q ≡ (set.contains a q || From k letter q)
      through true e placed with without = with ∙ kept a k name placed e
      through false e placed with without = without ∙ passed a k e

pub letter_read : (table : List (List ℕ)) (letter : Letter) → IsTrue (are_distinct table) → IsOver table letter → letter_of table (members_of table letter) ≡ letter
letter_read table letter distinct over = same_members (letter_of table (members_of table letter)) letter (λ q.
    folds table letter q distinct table none 0 (λ e. let b = over q e in omega arith) (λ i x e. subst (λ n. slice_get table n ≡ Some x) (omega arith) e)
    ∙ from_start letter q)

pub letters_read : (table : List (List ℕ)) (letters : List Letter) → IsTrue (are_distinct table) → All (IsOver table) letters → map (letter_of table) (map (members_of table) letters) ≡ letters
letters_read table [] distinct over = refl
letters_read table (letter ∷ letters) distinct over =
    ap (λ l. l ∷ map (letter_of table) (map (members_of table) letters)) (letter_read table letter distinct (All-head (IsOver table) letter letters over))
    ∙ ap (λ l. letter ∷ l) (letters_read table letters distinct (All-tail (IsOver table) letter letters over))
