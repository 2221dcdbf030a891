-- What a search found.
use Rattle.std.specs.Prelude.{◌≡◌, ℕ, ◌+◌, ◌<◌, ◌^◌, ◌↔◌, Bool, true, false, ℤ, pos, List, length, Contains, slice_index_or}
use Rattle.sat_core.specs.declared.solving.Outcome.{Outcome}
use Rattle.sat_core.specs.declared.solving.Outcome.TheVariants.{Satisfied, Refuted, Spent}
use Rattle.chain_check.specs.Clauses.{Clause, SatisfiesAll}
use Rattle.chain_check.specs.Logs.{IsPassed, AreNew, EndsEmpty}

-- the variables whose literal is true are true
pub record AreValues (variables : ℕ) (literals : List ℤ) (values : List Bool) : Type 0 where
  pub long : length values ≡ variables
  pub right : (i : ℕ) → i < variables → (slice_index_or values i false ≡ true) ↔
      Contains literals (pos (i + 1))

abbrev pub IsOutcome : ℕ → List Clause → ℕ → Outcome → Type 0
IsOutcome variables clauses conflicts (Satisfied values) = (length values ≡ variables) ×
    SatisfiesAll values clauses
IsOutcome variables clauses conflicts (Refuted log) = IsPassed variables clauses log × EndsEmpty log
IsOutcome variables clauses conflicts (Spent log) = IsPassed variables clauses log ×
    AreNew clauses log × (length log ≡ conflicts) × (conflicts < 3 ^ variables)
