-- What the solver is like after it has learned a clause.
use Rattle.std.specs.Prelude.{◌≡◌, ◌≢◌, ℕ, ◌<◌, ◌≤◌, ◌∷◌, ◌++◌, ℤ, neg_ℤ, List, [], Option, Contains, MatchOption, length, take, slice_index}
use Rattle.sat_core.specs.declared.solver.Solver.{Solver}
use Rattle.chain_check.specs.Clauses.{Clause}
use Rattle.sat_core.specs.Watches.{StandsAt}

-- where it is false, it is so since the last decision
abbrev pub IsLate : List ℤ → List ℕ → ℤ → Type 0
IsLate trail limits m = (i : ℕ) → StandsAt trail (neg_ℤ m) i → (q : ℕ) → q < length limits →
    slice_index limits q ≤ i

-- a literal of the clause that is watched beside the top one
pub record IsSecond (s : Solver) (c : Clause) (top m : ℤ) : Type 0 where
  pub there : Contains c m
  pub differ : top ≢ m
  pub late : IsLate s.partial.literals s.limits.items m

-- The solver went back to before the decision of a level, added the clause and made its top literal true.
pub record IsTaught (old new : Solver) (c : Clause) (top : ℤ) (second : Option ℤ)
    (level : ℕ) : Type 0 where
  pub inside : level < length old.limits.items
  pub limits : new.limits.items ≡ take level old.limits.items
  pub trail : new.partial.literals ≡ take (slice_index old.limits.items level) old.partial.literals
      ++ top ∷ []
  pub has_top : Contains c top
  pub has_second : MatchOption second (new.limits.items ≡ []) (IsSecond new c top)
