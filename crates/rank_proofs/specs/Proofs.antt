-- Rank proofs that a plan cannot be fulfilled, as they are kept and printed.
use Rattle.std.specs.Prelude.{List, map}
use Rattle.std.specs.List.Sorted.{IsStrictlyIncreasing}
use Rattle.ltl_closure.specs.Nodes.{Node}
use Rattle.ltl_closure.specs.Jobs.{task_nodes}
use Rattle.ltl_tableau.specs.Branches.{Members, Branch}
use Rattle.ltl_tableau.specs.Ranks.{Ranked, RankProof as Plain}
use Rattle.ltl_tableau.specs.Tasks.{set_of, root_set}
use Rattle.ea_reduce.specs.Plans.{PlainPlan, plan_tasks}
use Rattle.rank_proofs.specs.declared.rank_proof.RankProof.{RankProof}
use Rattle.rank_proofs.specs.declared.rank_proof.ProofBranch.{ProofBranch}

-- the closure of a plan, and the set of its roots
abbrev pub plan_nodes : PlainPlan → List Node
plan_nodes plan = task_nodes (plan_tasks plan)

abbrev pub plan_roots : PlainPlan → Members
plan_roots plan = root_set (plan_tasks plan)

abbrev pub branch_of : ProofBranch → Branch
branch_of b = record { now = set_of b.now; later = set_of b.next }

abbrev pub ranked_of : ProofBranch → Ranked
ranked_of b = record { branch = branch_of b; rank = b.rank }

-- the proof with its sets
abbrev pub plain_proof : RankProof → Plain
plain_proof proof = record { entries = map ranked_of proof.branches; reasons = proof.reasons }

-- Its numbers ascend.
abbrev pub IsAscending : ProofBranch → Type 0
IsAscending b = IsStrictlyIncreasing b.now × IsStrictlyIncreasing b.next
