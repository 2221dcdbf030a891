-- What a solver keeps.
use Rattle.std.specs.Prelude.{◌≡◌, ℕ, ◌<◌, ◌-◌, ◌^◌, ◌++◌, ℤ, List, length}
use Rattle.sat_core.specs.declared.solver.Solver.{Solver}
use Rattle.chain_check.specs.Clauses.{Clause, AreClauses}
use Rattle.chain_check.specs.Chains.{IsNumbered, AllFalseIn}
use Rattle.sat_core.specs.Trails.{IsTrail, ArePlaced}

pub record IsReady (s : Solver) : Type 0 where
  pub few_variables : s.partial.variables < 2 ^ 31
  pub few_clauses : length s.clauses < 2 ^ 32 - 1
  pub sized : s.partial.variables < length s.places.items
  pub right : AreClauses s.partial.variables s.clauses
  pub trail : IsTrail s.partial.variables s.clauses s.partial.literals s.reasons.items
      s.limits.items
  pub placed : ArePlaced s.partial.literals s.places.items

-- Literals became true by clauses; the rest is as before.
pub record GoesOn (old new : Solver) : Type 0 where
  pub clauses : new.clauses ≡ old.clauses
  pub variables : new.partial.variables ≡ old.partial.variables
  pub limits : new.limits.items ≡ old.limits.items
  pub longer : (more : List ℤ) × (new.partial.literals ≡ old.partial.literals ++ more)

-- the clause with this number has only false literals
abbrev pub IsConflict : Solver → ℕ → Type 0
IsConflict s k = (c : Clause) × IsNumbered s.clauses k c × AllFalseIn s.partial.literals c
