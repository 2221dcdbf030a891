-- The search under way.
use Rattle.std.specs.Prelude.{◌≡◌, ℕ, ◌<◌, ◌^◌, List, length, Contains}
use Rattle.chain_check.specs.declared.clauses.Cnf.{Cnf}
use Rattle.live_safe.specs.declared.safe_net.SafeNet.{SafeNet}
use Rattle.cnf_frames.specs.declared.facts.Fact.{Fact}
use Rattle.cnf_frames.specs.declared.queries.Asked.TheVariants.{Keep}
use Rattle.cnf_frames.specs.Queries.{IsWithin, clauses_of, variables_of}
use Rattle.invar_find.specs.declared.kept.SpentGroup.{SpentGroup}
use Rattle.invar_find.specs.Kepts.{AreStarting, HasAll, IsSpentFact, IsSpentGroup}

-- the facts that are left, and the groups that were spent
pub record IsSearching (safe : SafeNet) (tried : List Fact) (conflicts : ℕ) (facts : List Fact)
    (gone : List SpentGroup) : Type 0 where
  pub starting : AreStarting safe tried facts
  pub unspent : (f : Fact) → Contains facts f → ¬ IsSpentFact gone f
  pub greatest : HasAll safe tried gone facts
  pub spent : (s : SpentGroup) → Contains gone s → IsSpentGroup safe tried conflicts facts s
  pub few : length facts < 2 ^ 37

-- These clauses ask for a step from a state with all facts that breaks one of the group.
pub record IsKeepQuery (safe : SafeNet) (facts : List Fact) (group : ℕ) (cnf : Cnf) : Type 0 where
  pub clauses : cnf.clauses ≡ clauses_of safe (Keep facts group)
  pub variables : cnf.variables ≡ variables_of safe (Keep facts group)
  pub within : IsWithin safe (Keep facts group)
