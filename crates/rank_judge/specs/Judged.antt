-- What is judged of a proof that a text says.
use Rattle.std.specs.Prelude.{◌≡◌, ℕ, List, Option, Some, None}
use denote.Ref.{Bor}
use Rattle.hy_text.specs.Lines.{lines_of}
use Rattle.ltl_closure.specs.Nodes.{Node}
use Rattle.ltl_tableau.specs.Branches.{Members}
use Rattle.ltl_tableau.specs.Ranks.{IsRankProof}
use Rattle.ea_reduce.specs.Plans.{PlainPlan}
use Rattle.rank_proofs.specs.declared.rank_proof.RankProof.{RankProof}
use Rattle.rank_proofs.specs.Proofs.{plan_nodes, plan_roots, plain_proof}
use Rattle.cert_text.specs.Lines.{Line}

-- It is a rank proof for the closure and the roots, and the rest is left of the text; or it is none.
abbrev pub IsJudgedAt : List Node → Members → RankProof → List Line → Option (Bor (List ℕ)) → Type 0
IsJudgedAt nodes roots proof rest None = ¬ IsRankProof nodes roots (plain_proof proof)
IsJudgedAt nodes roots proof rest (Some left) =
    IsRankProof nodes roots (plain_proof proof) × (lines_of left.now ≡ rest)

-- the same for a plan
abbrev pub IsJudged : PlainPlan → RankProof → List Line → Option (Bor (List ℕ)) → Type 0
IsJudged plan = IsJudgedAt (plan_nodes plan) (plan_roots plan)
