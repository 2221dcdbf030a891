-- Ands that can be taken, and what has been taken.
use Rattle.std.specs.Prelude.{◌≡◌, ℕ, ◌+◌, ◌-◌, ◌/◌, ◌<◌, ◌≤◌, ◌^◌, Bool, true, false, List, [], length, ◌⊎◌, ◌||◌, nat_eq, slice_index, slice_index_or, slice_set, ◌∷◌, ◌++◌, not, Option, Some, None}
use Rattle.aig_order.specs.declared.gate.Gate.{Gate}
use Rattle.aig_order.specs.Firsts.{holds}
use Rattle.aig_order.specs.Gates.{gate_at, uses, waits, is_next, taken}

-- The key of the number is among them.
abbrev pub has : List ℕ → ℕ → Bool
has keys j = holds (4294967295 - j) keys

-- The ands' variables are apart, and no variable is past the greatest.
pub record AreApart (gates : List Gate) (top : ℕ) : Type 0 where
  pub own : (k : ℕ) → k < length gates → (gate_at gates k).lhs / 2 ≤ top
  pub left : (k : ℕ) → k < length gates → (gate_at gates k).left / 2 ≤ top
  pub right : (k : ℕ) → k < length gates → (gate_at gates k).right / 2 ≤ top
  pub apart : (k j : ℕ) → k < length gates → j < length gates → (gate_at gates k).lhs / 2 ≡ (gate_at gates j).lhs / 2 → k ≡ j

-- Of the first n ands, this one defines the variable.
pub record AreDefiners (gates : List Gate) (top n : ℕ) (definers : List (Option ℕ)) : Type 0 where
  pub long : length definers ≡ top + 1
  pub right : (v j : ℕ) → slice_index_or definers v None ≡ Some j → (j < n) × ((gate_at gates j).lhs / 2 ≡ v)
  pub all : (j : ℕ) → j < n → slice_index_or definers ((gate_at gates j).lhs / 2) None ≡ Some j

-- Each of the first n ands is among the users of each that it uses.
pub record AreUsers (gates : List Gate) (n : ℕ) (users : List (List ℕ)) : Type 0 where
  pub long : length users ≡ length gates
  pub all : (k j : ℕ) → k < n → j < length gates → uses gates k j ≡ true → holds k (slice_index_or users j []) ≡ true

-- Marks of what is taken.
abbrev pub AreMarked : List Gate → List ℕ → List Bool → Type 0
AreMarked gates order marks = (k : ℕ) → k < length gates → slice_index_or marks k false ≡ holds k order

-- What is ready waits for none, and what can be taken next is ready.
pub record AreTaken (gates : List Gate) (order : List ℕ) (marks : List Bool) (ready : List ℕ) : Type 0 where
  pub long : length marks ≡ length gates
  pub marked : AreMarked gates order marks
  pub sound : (k : ℕ) → k < 2 ^ 32 → has ready k ≡ true → (k < length gates) × (waits gates order k ≡ false)
  pub full : (k : ℕ) → k < length gates → is_next gates order k ≡ true → has ready k ≡ true

-- The least that is ready and not taken, with what is ready behind it, or there is none.
pub record IsLeast (marks : List Bool) (old new : List ℕ) (k : ℕ) : Type 0 where
  pub small : k < 2 ^ 32
  pub ready : has old k ≡ true
  pub fresh : slice_index_or marks k false ≡ false
  pub least : (j : ℕ) → j < 2 ^ 32 → has old j ≡ true → slice_index_or marks j false ≡ false → k ≤ j
  pub within : (j : ℕ) → j < 2 ^ 32 → has new j ≡ true → has old j ≡ true
  pub rest : (j : ℕ) → j < 2 ^ 32 → has old j ≡ true → slice_index_or marks j false ≡ false → (j ≡ k → ⊥) → has new j ≡ true

abbrev pub IsNextAnswer : List Bool → List ℕ → List ℕ → Option ℕ → Type 0
IsNextAnswer marks old new None =
    ((j : ℕ) → j < 2 ^ 32 → has old j ≡ true → slice_index_or marks j false ≡ true) × ((j : ℕ) → has new j ≡ false)
IsNextAnswer marks old new (Some k) = IsLeast marks old new k

-- The ands of these definers.
pub record AreSetUp (gates : List Gate) (definers : List (Option ℕ)) : Type 0 where
  pub top : ℕ
  pub apart : AreApart gates top
  pub few : length gates ≤ 1048576
  pub definers_are : AreDefiners gates top (length gates) definers

-- What is ready waits for none; what can be taken next is ready, or among the users from place p on.
pub record AreReadied (gates : List Gate) (users : List ℕ) (p : ℕ) (order : List ℕ) (marks : List Bool) (ready : List ℕ) : Type 0 where
  pub long : length marks ≡ length gates
  pub marked : AreMarked gates order marks
  pub sound : (k : ℕ) → k < 2 ^ 32 → has ready k ≡ true → (k < length gates) × (waits gates order k ≡ false)
  pub full : (k : ℕ) → k < length gates → is_next gates order k ≡ true
      → (has ready k ≡ true) ⊎ ((q : ℕ) × (p ≤ q) × (q < length users) × (slice_index users q ≡ k))

-- With the and among the users of the one that it uses.
abbrev pub HasUser : Option ℕ → ℕ → List (List ℕ) → List (List ℕ) → Type 0
HasUser None user old new = new ≡ old
HasUser (Some j) user old new = new ≡ slice_set old j (slice_index_or old j [] ++ user ∷ [])

abbrev pub is_untaken : List Bool → Option ℕ → Bool
is_untaken taken None = false
is_untaken taken (Some j) = not (slice_index_or taken j false)

-- The variable is that of an and that is not taken.
abbrev pub is_open : List (Option ℕ) → List Bool → ℕ → Bool
is_open definers taken l = is_untaken taken (slice_index_or definers (l / 2) None)

-- The and waits for one of its right sides.
abbrev pub is_kept : List Gate → List (Option ℕ) → List Bool → ℕ → Bool
is_kept gates definers marks k = is_open definers marks (gate_at gates k).left || is_open definers marks (gate_at gates k).right

abbrev pub IsHeldAnswer : List Gate → List (Option ℕ) → List Bool → ℕ → Bool → Type 0
IsHeldAnswer gates definers marks k true = (is_kept gates definers marks k ≡ true) ⊎ (length gates ≤ k)
IsHeldAnswer gates definers marks k false = (k < length gates) × (is_kept gates definers marks k ≡ false)

-- The number is ready now, unless it is held.
abbrev pub IsReadied : Bool → ℕ → List ℕ → List ℕ → Type 0
IsReadied true k old new = new ≡ old
IsReadied false k old new = (j : ℕ) → j < 2 ^ 32 → has new j ≡ (nat_eq j k || has old j)
