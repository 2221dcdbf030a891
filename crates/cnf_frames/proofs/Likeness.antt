-- Paths of valuations that agree on the variables of a net.
use Rattle.std.proofs.Common.{ℕ, suc, ◌≤◌, sym, ◌∙◌, arith}
use Rattle.aig_net.specs.Nets.{Net, IsNet}
use Rattle.aig_net.specs.Executions.{Word}
use Rattle.aig_net.proofs.Literals.{value-same}
use Rattle.aig_net.proofs.Likeness.{Alike, true-alike, start-alike, right-alike, step-alike}
use Rattle.live_safe.specs.declared.safe_net.SafeNet.{SafeNet}
use Rattle.live_safe.specs.Paths.{IsPath, IsBadPath}
use Rattle.cnf_frames.specs.Facts.{IsSafe}

module _ (net : Net) (good : IsNet net) where
  pub path-alike : (k : ℕ) (path path' : Word) → ((i : ℕ) → i ≤ k → Alike net (path i) (path' i)) →
      IsPath net k path → IsPath net k path'
  path-alike k path path' same is = record {
    right = λ i le. right-alike net good (path i) (path' i) (same i le) (is.right i le);
    kept = λ i lt. true-alike net good net.constraints (path i) (path' i) good.constraints
        (same i (omega arith)) (is.kept i lt);
    goes = λ i lt. step-alike net good (path i) (path (suc i)) (path' i) (path' (suc i))
        (same i (omega arith)) (same (suc i) (omega arith)) (is.goes i lt);
  }

pub bad-alike : (safe : SafeNet) → IsSafe safe → (k : ℕ) (path path' : Word) →
    ((i : ℕ) → i ≤ k → Alike safe.net (path i) (path' i)) → IsBadPath safe k path →
    IsBadPath safe k path'
bad-alike safe good k path path' same is = record {
  starts = start-alike safe.net good.net (path 0) (path' 0) (same 0 (omega arith)) is.starts;
  along = path-alike safe.net good.net k path path' same is.along;
  ends = sym (value-same (path k) (path' k) safe.bad (same k (omega arith) _ good.bad)) ∙ is.ends;
}
