-- Facts about the states of a safe net, and lists of them that are true at the start and kept by each step.
use Rattle.std.specs.Prelude.{◌≡◌, ◌≢◌, ℕ, ◌<◌, IsTrue, Bool, false, true, List, [], length, slice_index_or, All, Contains}
use Rattle.std.specs.List.{list_any}
use Rattle.aig_net.specs.declared.parts.Reset.TheVariants.{Zero as ResetZero}
use Rattle.aig_net.specs.Nets.{Net, Valuation, IsNet, Below, literal_value, latch_variable, reset_at, variables, IsRight, IsStart, IsStep, AllTrue}
use Rattle.live_safe.specs.declared.safe_net.SafeNet.{SafeNet}
use Rattle.cnf_frames.specs.declared.facts.Fact.{Fact}
use Rattle.cnf_frames.specs.declared.facts.Fact.TheVariants.{Zero, One, Same, Differ, AnyOf}

-- All latches start false, and the literal looks at latches alone: what makes a net with a literal a safe net.
pub record IsSafe (safe : SafeNet) : Type 0 where
  pub net : IsNet safe.net
  pub fairs : safe.net.fairs ≡ []
  pub zero : (j : ℕ) → reset_at safe.net.resets j ≡ ResetZero
  pub bad : Below (variables safe.net) safe.bad
  pub latches : (v w : Valuation) → IsRight safe.net v → IsRight safe.net w →
      ((j : ℕ) → j < length safe.net.latches →
      v (latch_variable safe.net j) ≡ w (latch_variable safe.net j)) →
      literal_value v safe.bad ≡ literal_value w safe.bad

-- Some of the literals is true where the latches have these values, by place.
abbrev pub any_true : (ℕ → Bool) → List ℕ → Bool
any_true state = list_any (literal_value state)

-- The fact holds where the latches have these values, by place.
abbrev pub HoldsIn : (ℕ → Bool) → Fact → Type 0
HoldsIn state (Zero j) = state j ≡ false
HoldsIn state (One j) = state j ≡ true
HoldsIn state (Same i j) = state i ≡ state j
HoldsIn state (Differ i j) = state i ≢ state j
HoldsIn state (AnyOf ls) = IsTrue (any_true state ls)

-- where the latches have their values in a valuation of the net
abbrev pub FactHolds : Net → Valuation → Fact → Type 0
FactHolds net v = HoldsIn (λ j. v (latch_variable net j))

abbrev pub AllHold : Net → List Fact → Valuation → Type 0
AllHold net facts v = (f : Fact) → Contains facts f → FactHolds net v f

-- Its places are below a number; of literals there is one at least.
abbrev pub IsIn : ℕ → Fact → Type 0
IsIn n (Zero j) = j < n
IsIn n (One j) = j < n
IsIn n (Same i j) = (i < n) × (j < n)
IsIn n (Differ i j) = (i < n) × (j < n)
IsIn n (AnyOf ls) = (0 < length ls) × All (Below n) ls

abbrev pub AllIn : ℕ → List Fact → Type 0
AllIn n facts = (f : Fact) → Contains facts f → IsIn n f

-- Each fact of the first list is one of the second.
abbrev pub AreAmong : List Fact → List Fact → Type 0
AreAmong some facts = (f : Fact) → Contains some f → Contains facts f

-- true at the start, and kept by each step
pub record IsInductive (net : Net) (facts : List Fact) : Type 0 where
  pub starts : (v : Valuation) → IsStart net v → AllHold net facts v
  pub stays : (v w : Valuation) → IsRight net v → AllTrue net.constraints v → IsStep net v w →
      AllHold net facts v → AllHold net facts w

abbrev pub fact_at : List Fact → ℕ → Fact
fact_at facts i = slice_index_or facts i (Zero 0)
