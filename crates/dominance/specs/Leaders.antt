-- The leaders of a list under a relation, and how an arrival changes them.
use Rattle.std.specs.Prelude.{◌≡◌, ℕ, suc, ◌<◌, ◌↔◌, Bool, true, not, cond, List, [], ◌∷◌, ◌++◌, length, map, slice_index_or}
use Rattle.std.specs.List.{Contains, list_any, filter}
use Rattle.hy_formula.specs.Quantifiers.{Each}

-- x stands at place k of the list
abbrev pub IsAt : {A : Type 0} → List A → ℕ → A → Type 0
IsAt list k x = (k < length list) × (slice_index_or list k x ≡ x)

-- Member t at place k is a leader: what is over it, it is over, and no earlier one is over it and
-- under it.
pub record IsLeader {A : Type 0} (Over : A → A → Type 0) (list : List A) (k : ℕ)
    (t : A) : Type 0 where
  pub there : IsAt list k t
  pub top : (j : ℕ) (u : A) → IsAt list j u → Over u t → Over t u
  pub first : (j : ℕ) (u : A) → j < k → IsAt list j u → Over u t → ¬ Over t u

-- a member and the number with which it arrived
pub record Numbered (A : Type 0) : Type 0 where
  pub number : ℕ
  pub item : A

abbrev pub numbered : {A : Type 0} → ℕ → A → Numbered A
numbered k x = record { number = k; item = x }

-- the members that are kept
abbrev pub items : {A : Type 0} → List (Numbered A) → List A
items {A} kept = map (λ (x : Numbered A). x.item) kept

abbrev pub IsAscending : {A : Type 0} → List (Numbered A) → Type 0
IsAscending [] = Unit {0}
IsAscending {A} (x ∷ xs) = Each (λ (y : Numbered A). x.number < y.number) xs × IsAscending xs

-- The kept members are the leaders of the list, in their order, and one of them is over each
-- member.
pub record AreLeaders {A : Type 0} (Over : A → A → Type 0) (list : List A)
    (kept : List (Numbered A)) : Type 0 where
  pub ascending : IsAscending kept
  pub exact : (k : ℕ) (t : A) → Contains kept (numbered k t) ↔ IsLeader Over list k t
  pub covers : (k : ℕ) (t : A) → IsAt list k t → (x : Numbered A) × Contains kept x × Over x.item t

-- What is kept after an arrival, by what is above it and what is under it: where a kept one is
-- above the new one, what was kept; else those that are not under it, and the new one last.
abbrev pub kept_by : {A : Type 0} → (Numbered A → Bool) → (Numbered A → Bool) → List (Numbered A)
    → Numbered A → List (Numbered A)
kept_by {A} above under kept x =
    cond (list_any above kept) kept (filter (λ (y : Numbered A). not (under y)) kept ++ x ∷ [])

abbrev pub kept_with : {A : Type 0} → (A → A → Bool) → List (Numbered A) → Numbered A
    → List (Numbered A)
kept_with {A} over kept x = kept_by (λ (y : Numbered A). over y.item x.item)
    (λ (y : Numbered A). over x.item y.item) kept x

-- The tests say of each kept one whether it is over the new one, and whether the new one is over
-- it.
pub record TestKept {A : Type 0} (Over : A → A → Type 0) (kept : List (Numbered A)) (t : A)
    (above under : Numbered A → Bool) : Type 0 where
  pub above_right : (x : Numbered A) → Contains kept x → (above x ≡ true) ↔ Over x.item t
  pub under_right : (x : Numbered A) → Contains kept x → (under x ≡ true) ↔ Over t x.item

-- what is kept after members that arrive from number k on
abbrev pub kept_from : {A : Type 0} → (A → A → Bool) → List (Numbered A) → ℕ → List A
    → List (Numbered A)
kept_from over kept k [] = kept
kept_from over kept k (x ∷ xs) = kept_from over (kept_with over kept (numbered k x)) (suc k) xs

abbrev pub leaders : {A : Type 0} → (A → A → Bool) → List A → List (Numbered A)
leaders over list = kept_from over [] 0 list

-- The test is of the relation.
abbrev pub Tests : {A : Type 0} → (A → A → Bool) → (A → A → Type 0) → Type 0
Tests {A} over Over = (t u : A) → (over t u ≡ true) ↔ Over t u
