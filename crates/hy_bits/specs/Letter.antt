-- A letter: the names that hold at one place of a trace. A name is known by its number.
use Rattle.std.specs.Prelude.{ℕ, IsTrue}
use Rattle.std.specs.FinSet.{contains}
use Rattle.hy_bits.specs.Sets.{NumberSet}

-- a set of names
abbrev pub Letter : Type 0
Letter = NumberSet

-- the name holds there
abbrev pub HasName : Letter → ℕ → Type 0
HasName letter name = IsTrue (contains letter name)
