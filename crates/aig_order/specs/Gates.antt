-- The order of the ands.
use Rattle.std.specs.Prelude.{◌≡◌, ℕ, zero, suc, ◌+◌, ◌/◌, ◌<◌, Bool, not, ◌&&◌, ◌||◌, nat_eq, List, [], ◌++◌, length, slice_index, slice_index_or, take, IsTrue, Option, option_to_list}
use Rattle.aig_order.specs.Firsts.{first_below, any_below, holds}
use Rattle.aig_order.specs.declared.gate.Gate.{Gate}

abbrev pub no_gate : Gate
no_gate = record { lhs = 0; left = 0; right = 0 }

abbrev pub gate_at : List Gate → ℕ → Gate
gate_at gates k = slice_index_or gates k no_gate

-- A right side of the gate is the variable of another one.
abbrev pub uses_gate : Gate → Gate → Bool
uses_gate g o = nat_eq (g.left / 2) (o.lhs / 2) || nat_eq (g.right / 2) (o.lhs / 2)

abbrev pub uses : List Gate → ℕ → ℕ → Bool
uses gates k j = uses_gate (gate_at gates k) (gate_at gates j)

-- some and that this one uses is not taken
abbrev pub waits : List Gate → List ℕ → ℕ → Bool
waits gates taken k = any_below (length gates) (λ j. uses gates k j && not (holds j taken))

abbrev pub is_next : List Gate → List ℕ → ℕ → Bool
is_next gates taken k = not (holds k taken) && not (waits gates taken k)

-- the first in file order that is not taken and waits for none
abbrev pub next_gate : List Gate → List ℕ → Option ℕ
next_gate gates taken = first_below (length gates) (is_next gates taken)

abbrev pub with_next : List Gate → List ℕ → List ℕ
with_next gates taken = taken ++ option_to_list (next_gate gates taken)

-- the first n that are taken, or fewer where none can be taken any more
abbrev pub taken : List Gate → ℕ → List ℕ
taken gates zero = []
taken gates (suc n) = with_next gates (taken gates n)

abbrev pub order : List Gate → List ℕ
order gates = taken gates (length gates)

-- Each is in range, comes once, and uses only what comes before it.
abbrev pub IsOrder : List Gate → List ℕ → Type 0
IsOrder gates list = (p : ℕ) → p < length list → (slice_index list p < length gates) × IsTrue (is_next gates (take p list) (slice_index list p))

abbrev pub IsComplete : List Gate → List ℕ → Type 0
IsComplete gates list = (k : ℕ) → k < length gates → IsTrue (holds k list)

-- The ands' variables follow in order from one on, and each uses lower ones.
abbrev pub AreSorted : ℕ → List Gate → Type 0
AreSorted first gates = (k : ℕ) → k < length gates → ((gate_at gates k).lhs / 2 ≡ first + k) × ((gate_at gates k).left / 2 < first + k) × ((gate_at gates k).right / 2 < first + k)

-- An and depends on what it uses, and on what that depends on.
pub data Depends (gates : List Gate) : ℕ → ℕ → Type 0 where
  at_once : (k j : ℕ) → k < length gates → j < length gates → IsTrue (uses gates k j) → Depends gates k j
  through : (k i j : ℕ) → k < length gates → i < length gates → IsTrue (uses gates k i) → Depends gates i j → Depends gates k j

-- the same, by at most n further ones between
abbrev pub depends : List Gate → ℕ → ℕ → ℕ → Bool
depends gates zero k j = uses gates k j
depends gates (suc n) k j = uses gates k j || any_below (length gates) (λ i. uses gates k i && depends gates n i j)
