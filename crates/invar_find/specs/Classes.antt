-- Classes of latches. Each latch has a number, that of some latch; those with one number are a class.
use Rattle.std.specs.Prelude.{◌≡◌, ℕ, ◌<◌, ◌↔◌, Bool, List, length, slice_index}

abbrev pub AreBelow : ℕ → List ℕ → Type 0
AreBelow n classes = (j : ℕ) → j < length classes → slice_index classes j < n

-- each latch a class of its own
pub record AreOwn (n : ℕ) (classes : List ℕ) : Type 0 where
  pub many : length classes ≡ n
  pub own : (j : ℕ) → j < n → slice_index classes j ≡ j

-- In the state each latch has the value of the latch whose number it has.
abbrev pub AreConstant : List ℕ → (ℕ → Bool) → Type 0
AreConstant classes state =
    (j : ℕ) → j < length classes → state j ≡ state (slice_index classes j)

-- The classes of latches i and j are one, and no class is split.
pub record AreJoined (i j : ℕ) (old new : List ℕ) : Type 0 where
  pub many : length new ≡ length old
  pub below : AreBelow (length old) new
  pub joined : slice_index new i ≡ slice_index new j
  pub kept : (a b : ℕ) → a < length old → b < length old →
      slice_index old a ≡ slice_index old b → slice_index new a ≡ slice_index new b

-- Two latches are in one class exactly where they were and have one value in the state.
pub record AreSplit (n : ℕ) (old : List ℕ) (state : ℕ → Bool) (new : List ℕ) : Type 0 where
  pub many : length new ≡ n
  pub below : AreBelow n new
  pub split : (a b : ℕ) → a < n → b < n → (slice_index new a ≡ slice_index new b)
      ↔ ((slice_index old a ≡ slice_index old b) × (state a ≡ state b))
