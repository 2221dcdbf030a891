-- Names one after another, and those of them that a letter has.
use Rattle.std.proofs.Common.{◌≡◌, ℕ, zero, suc, ◌+◌, ◌<◌, ◌≤◌, Bool, true, false, ◌||◌, ◌&&◌, nat_eq, List, [], ◌∷◌, ◌++◌, length, slice_get, slice_index_or, Some, inl, inr, refl, sym, ap, ◌∙◌, subst, arith}
use Rattle.std.specs.List.{list_any}
use Rattle.std.specs.FinSet.{empty, insert, contains, intersection, is_subset, contains-empty, contains-intersection, is_subset-contains}
use Rattle.std.specs.Ordering.{nat_cmp}
use Rattle.std.specs.Cmp.{nat_cmp_total}
use Rattle.std.proofs.Math.Bool.{or-false, or-true}
use Rattle.std.proofs.lemmas.List.Folds.{list_any-append}
use Rattle.std.proofs.lemmas.Bool.{cases_eq, cases_lt, cases_Bool, eq-eqb, ne_eqb}
use Rattle.hy_base.proofs.Members.{any-of}
use Rattle.hy_bits.specs.BinaryLaws.{contains-insert_same, contains-insert_other, same_members}
use Rattle.hy_bits.specs.Letter.{Letter}
use Rattle.hy_bits.specs.Sets.{AreBelow}
use Rattle.tuple_walk.proofs.Lists.{get-contains}
use Rattle.rv_core.specs.Masks.{AreListed}

-- whether a name is one of these
abbrev pub is_listed : List ℕ → ℕ → Bool
is_listed names k = list_any (λ n. nat_eq n k) names

listed-push : (names : List ℕ) (n k : ℕ)
    → is_listed (names ++ n ∷ []) k ≡ (is_listed names k || nat_eq n k)
listed-push names n k =
    list_any-append (λ m. nat_eq m k) names (n ∷ [])
    ∙ ap (λ b. is_listed names k || b) (or-false (nat_eq n k))

listed-same : (names : List ℕ) (n : ℕ) → is_listed (names ++ n ∷ []) n ≡ true
listed-same names n =
    listed-push names n n ∙ ap (λ b. is_listed names n || b) (eq-eqb n n refl)
    ∙ or-true (is_listed names n)

listed-other : (names : List ℕ) (n k : ℕ) → (¬ (k ≡ n))
    → is_listed (names ++ n ∷ []) k ≡ is_listed names k
listed-other names n k apart =
    listed-push names n k ∙ ap (λ b. is_listed names k || b) (ne_eqb n k (λ e. apart (sym e)))
    ∙ or-false (is_listed names k)

-- ---- the names of a set, from the least on

-- Those below i are listed, and no other.
pub record AreListedBelow (names : List ℕ) (all : Letter) (i : ℕ) : Type 0 where
  pub below : (k : ℕ) → k < i → is_listed names k ≡ contains all k
  pub none : (k : ℕ) → i ≤ k → is_listed names k ≡ false

pub listed-start : (all : Letter) → AreListedBelow [] all 0
listed-start all = record { below = λ k lt. absurd (omega arith); none = λ k le. refl }

module _ (names : List ℕ) (all : Letter) (i : ℕ) (are : AreListedBelow names all i) where
  pub listed-more : contains all i ≡ true → AreListedBelow (names ++ i ∷ []) all (i + 1)
  listed-more has = record {
    below = λ k lt. elim (cases_eq k i) [
      | inl e ↦
          let P : ℕ → Type 0 = λ j. is_listed (names ++ i ∷ []) j ≡ contains all j in
          subst P (sym e) (listed-same names i ∙ sym has)
      | inr apart ↦ listed-other names i k apart ∙ are.below k (omega arith)
    ];
    none = λ k le.
        listed-other names i k (λ e. absurd (omega (arith, e, le))) ∙ are.none k (omega (arith, le));
  }

  pub listed-less : contains all i ≡ false → AreListedBelow names all (i + 1)
  listed-less lacks = record {
    below = λ k lt. elim (cases_eq k i) [
      | inl e ↦
          let P : ℕ → Type 0 = λ j. is_listed names j ≡ contains all j in
          subst P (sym e) (are.none i (omega arith) ∙ sym lacks)
      | inr apart ↦ are.below k (omega arith)
    ];
    none = λ k le. are.none k (omega (arith, le));
  }

pub listed-all : (names : List ℕ) (all : Letter) → AreBelow 64 all → AreListedBelow names all 64
    → AreListed names all
listed-all names all below are k = elim (cases_Bool (contains all k)) [
  | inl has ↦ are.below k (below k has)
  | inr lacks ↦ elim (cases_lt k 64) [
    | inl lt ↦ are.below k lt
    | inr le ↦ are.none k le ∙ sym lacks
  ]
]

pub name-at : (names : List ℕ) (i : ℕ) → i < length names
    → slice_get names i ≡ Some (slice_index_or names i 0)
name-at [] i lt = absurd (omega arith)
name-at (n ∷ ns) zero lt = refl
name-at (n ∷ ns) (suc i) lt = name-at ns i (omega arith)

listed-below : (names : List ℕ) (all : Letter) → AreListed names all → AreBelow 64 all
    → (i n : ℕ) → slice_get names i ≡ Some n → n < 64
listed-below names all are below i n at =
    below n (sym (are n)
    ∙ any-of (λ m. nat_eq m n) names n (get-contains names i n at) (eq-eqb n n refl))

-- the name at a place of these, which are the same list
pub name-below : (names items : List ℕ) (all : Letter) → items ≡ names → AreListed names all
    → AreBelow 64 all → (i : ℕ) → i < length items → slice_index_or items i 0 < 64
name-below names items all same are below i lt =
    let P : List ℕ → Type 0 = λ list. AreListed list all in
    listed-below items all (subst P (sym same) are) below i (slice_index_or items i 0)
    (name-at items i lt)

-- ---- those of a letter

-- what is found are the names of the letter that are listed
abbrev pub AreFound : Letter → List ℕ → Letter → Type 0
AreFound letter names found =
    (k : ℕ) → contains found k ≡ (contains letter k && is_listed names k)

pub found-start : (letter : Letter) → AreFound letter [] empty
found-start letter k = contains-empty nat_cmp k ∙ sym (and-false (contains letter k))
  where
    and-false : (b : Bool) → (b && false) ≡ false
    and-false true = refl
    and-false false = refl

module _ (letter : Letter) (names : List ℕ) (found : Letter) (are : AreFound letter names found)
    (n : ℕ) where
  pub found-more : contains letter n ≡ true → AreFound letter (names ++ n ∷ []) (insert found n)
  found-more has k = elim (cases_eq k n) [
    | inl e ↦
        let P : ℕ → Type 0 = λ j.
        contains (insert found n) j ≡ (contains letter j && is_listed (names ++ n ∷ []) j) in
        subst P (sym e)
        (contains-insert_same found n
        ∙ sym (ap (λ b. b && is_listed (names ++ n ∷ []) n) has ∙ listed-same names n))
    | inr apart ↦
        contains-insert_other found n k apart ∙ are k
        ∙ ap (λ b. contains letter k && b) (sym (listed-other names n k apart))
  ]

  pub found-less : contains letter n ≡ false → AreFound letter (names ++ n ∷ []) found
  found-less lacks k = elim (cases_eq k n) [
    | inl e ↦
        let P : ℕ → Type 0 =
        λ j. contains found j ≡ (contains letter j && is_listed (names ++ n ∷ []) j) in
        subst P (sym e)
        (are n ∙ ap (λ b. b && is_listed names n) lacks
        ∙ sym (ap (λ b. b && is_listed (names ++ n ∷ []) n) lacks))
    | inr apart ↦ are k ∙ ap (λ b. contains letter k && b) (sym (listed-other names n k apart))
  ]

pub found-all : (letter all found : Letter) (names : List ℕ) → AreListed names all
    → AreFound letter names found → found ≡ intersection letter all
found-all letter all found names listed are =
    same_members _ _ (λ k.
    are k ∙ ap (λ b. contains letter k && b) (listed k)
    ∙ sym (contains-intersection nat_cmp_total letter all k))

pub within : (letter all : Letter) → is_subset letter all ≡ true → intersection letter all ≡ letter
within letter all is =
    same_members _ _ (λ k.
    contains-intersection nat_cmp_total letter all k
    ∙ by (contains letter k) (contains all k) (is_subset-contains nat_cmp_total letter all is k))
  where
    by : (a b : Bool) → (a ≡ true → b ≡ true) → (a && b) ≡ a
    by true b f = f refl
    by false b f = refl
