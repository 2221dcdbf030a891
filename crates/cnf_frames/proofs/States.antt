-- How many distinct states a net has: more than 2 to the power of its latches are not distinct.
use Rattle.std.proofs.Common.{ℕ, ◌^◌, ◌<◌, List, length, inl, inr, arith}
use Rattle.std.proofs.lemmas.Bool.{cases_lt}
use Rattle.hy_base.proofs.RowNumbers.{two-rows}
use Rattle.aig_net.specs.Nets.{latch_variable}
use Rattle.aig_net.specs.Executions.{Word}
use Rattle.live_safe.specs.declared.safe_net.SafeNet.{SafeNet}
use Rattle.cnf_frames.specs.declared.facts.Fact.{Fact}
use Rattle.cnf_frames.specs.QueryPaths.{IsStepPath}

pub short-step : (safe : SafeNet) (facts : List Fact) (k : ℕ) (word : Word) →
    IsStepPath safe facts k word → k < 2 ^ length safe.net.latches
short-step safe facts k word is =
    elim (cases_lt k (2 ^ length safe.net.latches)) [
      | inl lt ↦ lt
      | inr le ↦
          let (i, m, lt, few, e) = two-rows (length safe.net.latches)
          (λ i j. word i (latch_variable safe.net j)) in
          absurd (is.apart i m lt (omega arith) e)
    ]
