-- A net placed in a larger one, whose literals stand for its variables.
use Rattle.std.specs.Prelude.{◌≡◌, ℕ, suc, ◌+◌, ◌*◌, ◌<◌, Bool, List, length}
use Rattle.aig_net.specs.declared.parts.And.{And}
use Rattle.aig_net.specs.Nets.{Net, Valuation, Below, first_and, latch_variable, variables, and_at, literal_at, literal_value, reset_at, under}
use Rattle.aig_net.specs.Executions.{Word}
use Rattle.aig_net.specs.Wires.{and_of}

-- the and, where each variable stands for a literal
abbrev pub and_under : (ℕ → ℕ) → And → And
and_under f a = and_of (under f a.left) (under f a.right)

-- Latch j of the part is latch k of the whole.
pub record IsLatchAt (part whole : Net) (f : ℕ → ℕ) (j k : ℕ) : Type 0 where
  pub below : k < length whole.latches
  pub stands : f (latch_variable part j) ≡ 2 * latch_variable whole k
  pub next : literal_at whole.latches k ≡ under f (literal_at part.latches j)
  pub reset : reset_at whole.resets k ≡ reset_at part.resets j

-- And j of the part is and k of the whole.
pub record IsAndAt (part whole : Net) (f : ℕ → ℕ) (j k : ℕ) : Type 0 where
  pub below : k < length whole.ands
  pub stands : f (first_and part + j) ≡ 2 * (first_and whole + k)
  pub made : and_at whole.ands k ≡ and_under f (and_at part.ands j)

-- Each variable of the part stands for a literal of the whole: an input for any, and a latch or an
-- and for one of its kind, made as the part says.
pub record IsPlaced (part whole : Net) (f : ℕ → ℕ) : Type 0 where
  pub constant : f 0 ≡ 0
  pub inputs : (j : ℕ) → j < part.inputs → Below (variables whole) (f (suc j))
  pub latches : (j : ℕ) → j < length part.latches → (k : ℕ) × IsLatchAt part whole f j k
  pub ands : (j : ℕ) → j < length part.ands → (k : ℕ) × IsAndAt part whole f j k

-- the valuation of the part that one of the whole shows
abbrev pub through : (ℕ → ℕ) → Valuation → Valuation
through f v u = literal_value v (f u)

abbrev pub word_through : (ℕ → ℕ) → Word → Word
word_through f word i = through f (word i)

-- Each literal of the first list stands in the second, under f.
abbrev pub AreAmong : (ℕ → ℕ) → List ℕ → List ℕ → Type 0
AreAmong f literals others = (j : ℕ) → j < length literals →
    (k : ℕ) × (k < length others) × (literal_at others k ≡ under f (literal_at literals j))

-- The part's inputs and latches stand for inputs and latches of the whole, and these are given
-- what a word of the part has, the inputs at each position and the latches at the first.
pub record IsGiven (part whole : Net) (f : ℕ → ℕ) (given : ℕ → ℕ → Bool) (first : ℕ → Bool)
    (own : Word) : Type 0 where
  pub inputs : (j : ℕ) → j < part.inputs → (k : ℕ) × (k < whole.inputs)
      × (f (suc j) ≡ 2 * suc k) × ((i : ℕ) → given i k ≡ own i (suc j))
  pub latches : (j : ℕ) → j < length part.latches → (k : ℕ) × (k < length whole.latches)
      × (f (latch_variable part j) ≡ 2 * latch_variable whole k)
      × (first k ≡ own 0 (latch_variable part j))
