-- A checker of logs as contracts see it.
use Rattle.std.specs.Prelude.{ℕ, List}
use Rattle.chain_check.specs.Clauses.{Clause}

-- clauses over so many variables: those given, and then those that followed, in order
pub record Known : Type 0 where
  pub variables : ℕ
  pub clauses : List Clause
