-- Proofs by induction that no path from the start of a safe net is bad: logs that refute queries.
use Rattle.std.specs.Prelude.{◌≡◌, ℕ, suc, ◌<◌, ◌≤◌, List, [], length, slice_index_or}
use Rattle.aig_net.specs.Nets.{Valuation, IsStart}
use Rattle.chain_check.specs.declared.logs.Learned.{Learned}
use Rattle.chain_check.specs.Logs.{IsRefutation}
use Rattle.live_safe.specs.declared.safe_net.SafeNet.{SafeNet}
use Rattle.cnf_frames.specs.declared.facts.Fact.{Fact}
use Rattle.cnf_frames.specs.declared.queries.Asked.{Asked}
use Rattle.cnf_frames.specs.declared.queries.Asked.TheVariants.{Base, Step, Keep}
use Rattle.cnf_frames.specs.declared.inductions.InductionProof.{InductionProof}
use Rattle.cnf_frames.specs.Facts.{AllHold, AllIn}
use Rattle.cnf_frames.specs.Queries.{IsWithin, clauses_of, variables_of, groups}

-- The log refutes the query.
abbrev pub IsRefuted : SafeNet → Asked → List Learned → Type 0
IsRefuted safe asked log = IsRefutation (variables_of safe asked) (clauses_of safe asked) log

abbrev pub log_at : List (List Learned) → ℕ → List Learned
log_at logs i = slice_index_or logs i []

-- one log for the keep query of each group
pub record AreKept (safe : SafeNet) (facts : List Fact) (logs : List (List Learned)) : Type 0 where
  pub many : length logs ≡ groups facts
  pub each : (g : ℕ) → g < groups facts → IsRefuted safe (Keep facts g) (log_at logs g)

-- one log for the base query of each length up to a depth
pub record AreBases (safe : SafeNet) (depth : ℕ) (logs : List (List Learned)) : Type 0 where
  pub many : length logs ≡ suc depth
  pub each : (i : ℕ) → i ≤ depth → IsRefuted safe (Base i) (log_at logs i)

pub record IsInductionProof (safe : SafeNet) (proof : InductionProof) : Type 0 where
  pub inside : AllIn (length safe.net.latches) proof.inv
  pub starts : (v : Valuation) → IsStart safe.net v → AllHold safe.net proof.inv v
  pub keeps : AreKept safe proof.inv proof.keep
  pub bases : AreBases safe proof.depth proof.base
  pub step : IsRefuted safe (Step proof.inv proof.depth) proof.step

-- ---- what of these queries can be made

-- The keep query of each group is within its limits.
abbrev pub AreKeepsWithin : SafeNet → List Fact → Type 0
AreKeepsWithin safe facts = (g : ℕ) → g < groups facts → IsWithin safe (Keep facts g)

-- The base query of each length up to a depth is within its limits.
abbrev pub AreBasesWithin : SafeNet → ℕ → Type 0
AreBasesWithin safe depth = (i : ℕ) → i ≤ depth → IsWithin safe (Base i)

-- Each query that a proof refutes is within its limits.
pub record AreQueriesWithin (safe : SafeNet) (proof : InductionProof) : Type 0 where
  pub keeps : AreKeepsWithin safe proof.inv
  pub bases : AreBasesWithin safe proof.depth
  pub step : IsWithin safe (Step proof.inv proof.depth)
