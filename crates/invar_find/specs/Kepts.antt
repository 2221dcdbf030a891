-- The greatest inductive part of candidates.
use Rattle.std.specs.Prelude.{◌≡◌, ℕ, ◌<◌, List, length, Contains}
use Rattle.hy_base.specs.Limits.{most}
use Rattle.aig_net.specs.Nets.{Valuation, IsStart}
use Rattle.live_safe.specs.declared.safe_net.SafeNet.{SafeNet}
use Rattle.sat_core.specs.declared.solving.Outcome.TheVariants.{Spent as SpentOutcome}
use Rattle.sat_core.specs.Outcomes.{IsOutcome}
use Rattle.cnf_frames.specs.declared.facts.Fact.{Fact}
use Rattle.cnf_frames.specs.declared.queries.Asked.TheVariants.{Keep}
use Rattle.cnf_frames.specs.declared.queries.FrameError.{FrameError}
use Rattle.cnf_frames.specs.declared.queries.FrameError.TheVariants.{Limit, Memory}
use Rattle.cnf_frames.specs.Facts.{AllHold, AllIn, AreAmong, IsInductive}
use Rattle.cnf_frames.specs.Queries.{IsPast, clauses_of, group_of, groups, variables_of}
use Rattle.cnf_frames.specs.Proofs.{AreKeepsWithin, AreKept}
use Rattle.cnf_frames.specs.ProofTexts.{AreSimple}
use Rattle.invar_find.specs.declared.kept.SpentGroup.{SpentGroup}
use Rattle.invar_find.specs.declared.kept.Kept.{Kept}
use Rattle.invar_find.specs.Candidates.{candidates}
use Rattle.invar_find.specs.Parts.{IsSublist}

-- some of the candidates, about latches of the net, all true at the start
pub record AreStarting (safe : SafeNet) (tried facts : List Fact) : Type 0 where
  pub sublist : IsSublist facts tried
  pub inside : AllIn (length safe.net.latches) facts
  pub starts : (v : Valuation) → IsStart safe.net v → AllHold safe.net facts v

-- The conflicts were spent on the query of a group, whose facts have all those among them.
pub record IsSpentGroup (safe : SafeNet) (tried : List Fact) (conflicts : ℕ) (facts : List Fact)
    (s : SpentGroup) : Type 0 where
  pub starting : AreStarting safe tried s.facts
  pub among : AreAmong facts s.facts
  pub group : s.group < groups s.facts
  pub spent : IsOutcome (variables_of safe (Keep s.facts s.group))
      (clauses_of safe (Keep s.facts s.group)) conflicts (SpentOutcome s.log)

-- a spent group has the fact
abbrev pub IsSpentFact : List SpentGroup → Fact → Type 0
IsSpentFact spent f =
    (s : SpentGroup) × Contains spent s × Contains (group_of s.facts s.group) f

-- a candidate in no spent group
pub record IsOpenCandidate (tried : List Fact) (spent : List SpentGroup) (f : Fact) : Type 0 where
  pub candidate : Contains tried f
  pub unspent : ¬ IsSpentFact spent f

-- Each inductive list of candidates in no spent group is among the facts.
abbrev pub HasAll : SafeNet → List Fact → List SpentGroup → List Fact → Type 0
HasAll safe tried spent facts =
    (some : List Fact) → IsInductive safe.net some →
    ((f : Fact) → Contains some f → IsOpenCandidate tried spent f) → AreAmong some facts

-- what is kept of these candidates
pub record IsKeptOf (safe : SafeNet) (tried : List Fact) (conflicts : ℕ) (kept : Kept) : Type 0 where
  pub inside : AllIn (length safe.net.latches) kept.inv
  pub inductive : IsInductive safe.net kept.inv
  pub starting : AreStarting safe tried kept.inv
  pub unspent : (f : Fact) → Contains kept.inv f → ¬ IsSpentFact kept.spent f
  pub greatest : HasAll safe tried kept.spent kept.inv
  pub logs : AreKept safe kept.inv kept.logs
  pub within : AreKeepsWithin safe kept.inv
  pub spent : (s : SpentGroup) → Contains kept.spent s → IsSpentGroup safe tried conflicts kept.inv s

-- The query of some of these candidates that are true at the start is past the limit.
abbrev pub IsStoppedAt : SafeNet → List Fact → FrameError → Type 0
IsStoppedAt safe tried (Limit limit) =
    (facts : List Fact) × (group : ℕ) × AreStarting safe tried facts × (group < groups facts)
    × IsPast safe (Keep facts group) limit.kind × (limit.limit ≡ most limit.kind)
IsStoppedAt safe tried Memory = Unit {0}

-- ---- of the simple candidates

-- what is kept, of which nothing is a clause
pub record IsKept (safe : SafeNet) (conflicts : ℕ) (kept : Kept) : Type 0 where
  pub part : IsKeptOf safe (candidates (length safe.net.latches)) conflicts kept
  pub simple : AreSimple kept.inv

abbrev pub IsStopped : SafeNet → FrameError → Type 0
IsStopped safe = IsStoppedAt safe (candidates (length safe.net.latches))
