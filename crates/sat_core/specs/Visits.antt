-- What a visit to a clause did, one of whose watched literals has become false.
use Rattle.std.specs.Prelude.{◌≡◌, ℕ, ◌∷◌, ◌++◌, ℤ, [], Contains, slice_index_or, slice_set}
use Rattle.sat_core.specs.declared.solver.Solver.{Solver}
use Rattle.sat_core.specs.declared.watches.Watches.{Watches}
use Rattle.sat_core.specs.declared.watching.Visit.{Visit}
use Rattle.sat_core.specs.declared.watching.Visit.TheVariants.{Kept, Moved, Conflict}
use Rattle.chain_check.specs.Chains.{AllFalseIn}
use Rattle.sat_core.specs.Lists.{place_of}
use Rattle.sat_core.specs.Watches.{no_pair, IsReplacement, IsOther}

abbrev pub AreAsBefore : Watches → Watches → Type 0
AreAsBefore old new = (new.pairs.items ≡ old.pairs.items) × (new.lists ≡ old.lists)

pub record IsMoved (s t : Solver) (old new : Watches) (k : ℕ) (l other m : ℤ) : Type 0 where
  pub same : t ≡ s
  pub is_other : IsOther (slice_index_or old.pairs.items k no_pair) l other
  pub found : IsReplacement t.partial.literals (slice_index_or t.clauses k []) other m
  pub pairs : new.pairs.items ≡ slice_set old.pairs.items k (record { first = other; second = m })
  pub lists : new.lists ≡ slice_set old.lists (place_of m)
      (slice_index_or old.lists (place_of m) [] ++ k ∷ [])

abbrev pub IsVisit : Solver → Solver → Watches → Watches → ℕ → ℤ → Visit → Type 0
IsVisit s t old new k l Kept = AreAsBefore old new ×
    ((b : ℤ) × Contains (slice_index_or t.clauses k []) b × Contains t.partial.literals b)
IsVisit s t old new k l Moved = (other : ℤ) × (m : ℤ) × IsMoved s t old new k l other m
IsVisit s t old new k l Conflict = AreAsBefore old new ×
    AllFalseIn t.partial.literals (slice_index_or t.clauses k [])
