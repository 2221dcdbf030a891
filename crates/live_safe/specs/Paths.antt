-- Paths of a net with a bad literal.
use Rattle.std.specs.Prelude.{ℕ, suc, ◌<◌, ◌≤◌, IsTrue}
use Rattle.aig_net.specs.Nets.{Net, literal_value, IsRight, IsStart, IsStep, AllTrue}
use Rattle.aig_net.specs.Executions.{Word}
use Rattle.live_safe.specs.declared.safe_net.SafeNet.{SafeNet}

-- k steps; the constraints are true in each step, and so not asked of the last valuation
pub record IsPath (net : Net) (k : ℕ) (path : Word) : Type 0 where
  pub right : (i : ℕ) → i ≤ k → IsRight net (path i)
  pub kept : (i : ℕ) → i < k → AllTrue net.constraints (path i)
  pub goes : (i : ℕ) → i < k → IsStep net (path i) (path (suc i))

-- a path of k steps from the start to bad
pub record IsBadPath (safe : SafeNet) (k : ℕ) (path : Word) : Type 0 where
  pub starts : IsStart safe.net (path 0)
  pub along : IsPath safe.net k path
  pub ends : IsTrue (literal_value (path k) safe.bad)
