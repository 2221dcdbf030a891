-- What is said between a program and a shelf or a sink: its calls, and what came of each.
use Rattle.std.specs.Prelude.{ℕ, List}

-- A call of a shelf, with what came of it.
pub data Call : Type 0 where
  -- the file of that name was opened
  opened : (name : List ℕ) → Call
  -- it was not
  not_opened : (name : List ℕ) → Call
  -- a read gave these bytes, one at least
  gave : (bytes : List ℕ) → Call
  -- a read that had room for some gave none
  at_end : Call
  -- a read failed
  not_read : Call

-- A put into a sink, with what came of it.
pub data Put : Type 0 where
  -- the sink took these bytes
  took : (bytes : List ℕ) → Put
  -- it took none and failed
  not_taken : Put
