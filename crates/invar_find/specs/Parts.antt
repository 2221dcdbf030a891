-- Parts of lists of facts.
use Rattle.std.specs.Prelude.{ℕ, List, [], ◌∷◌, Contains}
use Rattle.cnf_frames.specs.declared.facts.Fact.{Fact}
use Rattle.cnf_frames.specs.Queries.{group_of}

-- some of the facts, in their order
pub data IsSublist : List Fact → List Fact → Type 0 where
  none : IsSublist [] []
  leaves : {f : Fact} {some all : List Fact} → IsSublist some all → IsSublist some (f ∷ all)
  takes : {f : Fact} {some all : List Fact} → IsSublist some all → IsSublist (f ∷ some) (f ∷ all)

-- those of the facts for which this holds
pub record AreThose (P : Fact → Type 0) (all some : List Fact) : Type 0 where
  pub sublist : IsSublist some all
  pub right : (f : Fact) → Contains some f → P f
  pub whole : (f : Fact) → Contains all f → P f → Contains some f

-- The fact is not of the group.
abbrev pub IsOutside : List Fact → ℕ → Fact → Type 0
IsOutside facts group f = ¬ Contains (group_of facts group) f
