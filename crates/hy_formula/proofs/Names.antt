-- Places of names.
--     place_of-append, place_of-get, place_of-push, get-place_of      a place stays, and gives the name back; the place of a new name; where the names are distinct, of any
--     are_distinct-push, length-push      what a new name leaves
--     position-place_of, list_any-place_of      the place as the first one that a test of kept names finds
use Rattle.std.proofs.Common.{◌≡◌, ℕ, zero, suc, ◌+◌, ◌<◌, Bool, true, false, not, ◌||◌, cond, List, [], ◌∷◌, ◌++◌, length, map, slice_get, position, Option, Some, None, is_some, nat_lt, if◌then◌else◌, IsTrue, refl, sym, ap, ◌∙◌, inl, inr, arith}
use Rattle.std.specs.List.{list_any, position_or_len}
use Rattle.std.specs.Option.{option_map}
use Rattle.std.specs.Str.{bytes_eq}
use Rattle.std.proofs.lemmas.Bool.{lt-ltb, le-ltb, cases_lt, true≢false, false_from_ne_true, and_parts, and_from}
use Rattle.std.proofs.lemmas.Slice.Eq.{bytes_eq-Decides}
use Rattle.hy_base.proofs.Truths.{same-bytes, bytes-themselves}
use Rattle.hy_formula.specs.Names.{place_of, are_distinct}

-- ---- a test on an option

bump : (o : Option ℕ) (k : ℕ) → option_map suc o ≡ Some (suc k) → o ≡ Some k
bump None k e = cc
bump (Some j) k e = cc

no_bump : (o : Option ℕ) → option_map suc o ≡ Some zero → ⊥
no_bump None e = cc
no_bump (Some j) e = cc

-- a place is the first, where the first name is the one, or one behind it
at_place : (P : ℕ → Type 0) (b : Bool) (o : Option ℕ) (k : ℕ) → (b ≡ true → P zero) → (b ≡ false → (j : ℕ) → o ≡ Some j → P (suc j))
    → (if b then Some zero else option_map suc o) ≡ Some k → P k
at_place P true o zero here later e = here refl
at_place P true o (suc k) here later e = cc
at_place P false o zero here later e = absurd (no_bump o e)
at_place P false o (suc k) here later e = later refl k (bump o k e)

-- the first name is another, and so are the later ones
no_place : (b : Bool) (o : Option ℕ) → (if b then Some zero else option_map suc o) ≡ None → (b ≡ false) × (o ≡ None)
no_place true o e = cc
no_place false None e = (refl, refl)
no_place false (Some j) e = cc

-- ---- places

pub place_of-append : (name : List ℕ) (xs ys : List (List ℕ)) (k : ℕ) → place_of name xs ≡ Some k → place_of name (xs ++ ys) ≡ Some k
place_of-append name [] ys k e = cc
place_of-append name (x ∷ xs) ys k e =
    at_place (λ j. place_of name (x ∷ xs ++ ys) ≡ Some j) (bytes_eq x name) (place_of name xs) k
    (λ same. ap (λ b. if b then Some zero else option_map suc (place_of name (xs ++ ys))) same)
    (λ other j there.
    ap (λ b. if b then Some zero else option_map suc (place_of name (xs ++ ys))) other
    ∙ ap (option_map suc) (place_of-append name xs ys j there))
    e

pub place_of-get : (name : List ℕ) (xs : List (List ℕ)) (k : ℕ) → place_of name xs ≡ Some k → slice_get xs k ≡ Some name
place_of-get name [] k e = cc
place_of-get name (x ∷ xs) k e =
    at_place (λ j. slice_get (x ∷ xs) j ≡ Some name) (bytes_eq x name) (place_of name xs) k
    (λ same. ap Some (same-bytes x name same))
    (λ other j there. place_of-get name xs j there)
    e

pub place_of-lt : (name : List ℕ) (xs : List (List ℕ)) (k : ℕ) → place_of name xs ≡ Some k → k < length xs
place_of-lt name [] k e = cc
place_of-lt name (x ∷ xs) k e =
    at_place (λ j. j < length (x ∷ xs)) (bytes_eq x name) (place_of name xs) k
    (λ same. omega arith)
    (λ other j there. omega (arith, place_of-lt name xs j there))
    e

-- ---- a new name

pub place_of-push : (name : List ℕ) (xs : List (List ℕ)) → place_of name xs ≡ None → place_of name (xs ++ name ∷ []) ≡ Some (length xs)
place_of-push name [] e = ap (λ b. if b then Some zero else None) (bytes-themselves name)
place_of-push name (x ∷ xs) e =
    let absent = no_place (bytes_eq x name) (place_of name xs) e in
    ap (λ b. if b then Some zero else option_map suc (place_of name (xs ++ name ∷ []))) absent.0
    ∙ ap (option_map suc) (place_of-push name xs absent.1)

place_of-push_other : (other name : List ℕ) (xs : List (List ℕ)) → bytes_eq name other ≡ false → place_of other xs ≡ None → place_of other (xs ++ name ∷ []) ≡ None
place_of-push_other other name [] apart e = ap (λ b. if b then Some zero else None) apart
place_of-push_other other name (x ∷ xs) apart e =
    let absent = no_place (bytes_eq x other) (place_of other xs) e in
    ap (λ b. if b then Some zero else option_map suc (place_of other (xs ++ name ∷ []))) absent.0
    ∙ ap (option_map suc) (place_of-push_other other name xs apart absent.1)

turned : (x y : List ℕ) → bytes_eq x y ≡ false → bytes_eq y x ≡ false
turned x y e = false_from_ne_true _ (λ t. true≢false (sym ((bytes_eq-Decides x y).1 (sym (same-bytes y x t))) ∙ e))

none_of : (o : Option ℕ) → not (is_some o) ≡ true → o ≡ None
none_of None e = refl
none_of (Some k) e = absurd (true≢false (sym e))

pub are_distinct-push : (name : List ℕ) (xs : List (List ℕ)) → place_of name xs ≡ None → IsTrue (are_distinct xs) → IsTrue (are_distinct (xs ++ name ∷ []))
are_distinct-push name [] e distinct = refl
are_distinct-push name (x ∷ xs) e distinct =
    let absent = no_place (bytes_eq x name) (place_of name xs) e in
    let parts = and_parts _ _ distinct in
    and_from _ _
    (ap (λ o. not (is_some o)) (place_of-push_other x name xs (turned x name absent.0) (none_of _ parts.0)))
    (are_distinct-push name xs absent.1 parts.1)

-- ---- the place of any of distinct names

pub get-place_of : (name : List ℕ) (xs : List (List ℕ)) (k : ℕ) → IsTrue (are_distinct xs) → slice_get xs k ≡ Some name → place_of name xs ≡ Some k
get-place_of name [] k distinct e = cc
get-place_of name (x ∷ xs) zero distinct e =
    let same : x ≡ name = cc in
    ap (λ b. if b then Some zero else option_map suc (place_of name xs)) ((bytes_eq-Decides x name).1 same)
get-place_of name (x ∷ xs) (suc k) distinct e =
    let parts = and_parts _ _ distinct in
    let there : place_of name xs ≡ Some k = get-place_of name xs k parts.1 e in
    let absent : place_of x xs ≡ None = none_of _ parts.0 in
    let apart : bytes_eq x name ≡ false = false_from_ne_true _ (λ t. let same = same-bytes x name t in cc) in
    ap (λ b. if b then Some zero else option_map suc (place_of name xs)) apart ∙ ap (option_map suc) there

-- ---- names as they are kept

either : (b c : Bool) (o : Option ℕ) → c ≡ is_some o → (b || c) ≡ is_some (if b then Some zero else option_map suc o)
either true c o e = refl
either false c None e = e
either false c (Some k) e = e

-- the first place in a list of n + 1 that a test passes at, where it passes at b first and at p behind
one_later : (b : Bool) (p n : ℕ) → cond (nat_lt (cond (not b) (1 + p) 0) (suc n)) (Some (cond (not b) (1 + p) 0)) None
    ≡ (if b then Some zero else option_map suc (cond (nat_lt p n) (Some p) None))
one_later true p n = ap (λ t. cond t (Some zero) None) (lt-ltb zero (suc n) (omega arith))
one_later false p n =
    elim (cases_lt p n) [
      | inl lt ↦
          ap (λ t. cond t (Some (1 + p)) None) (lt-ltb (1 + p) (suc n) (omega arith))
          ∙ ap Some (omega arith)
          ∙ sym (ap (λ t. option_map suc (cond t (Some p) None)) (lt-ltb p n lt))
      | inr le ↦
          ap (λ t. cond t (Some (1 + p)) None) (le-ltb (1 + p) (suc n) (omega arith))
          ∙ sym (ap (λ t. option_map suc (cond t (Some p) None)) (le-ltb p n le))
    ]

module _ {K : Type 0} (text : K → List ℕ) (name : List ℕ) (test : K → Bool) (tests : (k : K) → test k ≡ bytes_eq (text k) name) where
  pub list_any-place_of : (ks : List K) → list_any test ks ≡ is_some (place_of name (map text ks))
  list_any-place_of [] = refl
  list_any-place_of (k ∷ ks) = ap (λ b. b || list_any test ks) (tests k) ∙ either _ _ _ (list_any-place_of ks)

  pub position-place_of : (ks : List K) → position test ks ≡ place_of name (map text ks)
  position-place_of [] = refl
  position-place_of (k ∷ ks) =
      one_later (test k) (position_or_len test ks) (length ks)
      ∙ (λ i. if tests k i then Some zero else option_map suc (position-place_of ks i))
