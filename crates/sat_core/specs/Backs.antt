-- Going back to before a decision.
use Rattle.std.specs.Prelude.{◌≡◌, ℕ, ◌<◌, ◌≤◌, length, take, slice_index}
use Rattle.sat_core.specs.declared.solver.Solver.{Solver}

pub record IsBack (old new : Solver) (highest level : ℕ) : Type 0 where
  pub inside : level < length old.limits.items
  pub above : highest ≤ slice_index old.limits.items level
  pub clauses : new.clauses ≡ old.clauses
  pub pushed : new.partial ≡ record old.partial
      { literals = take (slice_index old.limits.items level) old.partial.literals }
  pub limits : new.limits.items ≡ take level old.limits.items
  pub lower : (j : ℕ) → j < level → slice_index old.limits.items j < highest
