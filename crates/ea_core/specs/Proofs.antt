-- Rank proofs of a plan, as they come of a search.
use Rattle.std.specs.Prelude.{◌↔◌, ℕ, ◌<◌, ◌≤◌, List, map, length, All}
use Rattle.std.specs.List.{Contains}
use Rattle.ltl_tableau.specs.Branches.{Branch}
use Rattle.ltl_tableau.specs.Ranks.{IsRankProof}
use Rattle.ltl_tableau.specs.Reached.{IsReachable, AreDistinct}
use Rattle.ea_reduce.specs.Plans.{PlainPlan}
use Rattle.rank_proofs.specs.declared.rank_proof.RankProof.{RankProof}
use Rattle.rank_proofs.specs.Proofs.{plan_nodes, plan_roots, branch_of, plain_proof, IsAscending}

abbrev pub branches_of : RankProof → List Branch
branches_of proof = map branch_of proof.branches

-- A rank proof of the plan, whose branches are the reachable ones, each once. It has no more ranks than these take.
pub record IsProofOf (plan : PlainPlan) (proof : RankProof) : Type 0 where
  pub right : IsRankProof (plan_nodes plan) (plan_roots plan) (plain_proof proof)
  pub least : (n : ℕ) → All (λ b. b.rank < n) proof.branches → length proof.reasons ≤ n
  pub distinct : AreDistinct (branches_of proof)
  pub reachable : (b : Branch) → Contains (branches_of proof) b ↔ IsReachable (plan_nodes plan) (plan_roots plan) b
  pub ascending : All IsAscending proof.branches
