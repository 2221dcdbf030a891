-- Groups whose queries are refuted.
use Rattle.std.proofs.Common.{◌≡◌, ℕ, ◌<◌, ◌≤◌, List, length}
use Rattle.chain_check.specs.declared.logs.Learned.{Learned}
use Rattle.live_safe.specs.declared.safe_net.SafeNet.{SafeNet}
use Rattle.cnf_frames.specs.declared.facts.Fact.{Fact}
use Rattle.cnf_frames.specs.declared.queries.Asked.TheVariants.{Keep}
use Rattle.cnf_frames.specs.Queries.{IsWithin, groups}
use Rattle.cnf_frames.specs.Proofs.{IsRefuted, log_at}

-- the first groups of the facts, as many as there are logs
pub record AreSettled (safe : SafeNet) (facts : List Fact) (group : ℕ)
    (logs : List (List Learned)) : Type 0 where
  pub within : group ≤ groups facts
  pub many : length logs ≡ group
  pub each : (g : ℕ) → g < group → IsRefuted safe (Keep facts g) (log_at logs g)
  pub made : (g : ℕ) → g < group → IsWithin safe (Keep facts g)
