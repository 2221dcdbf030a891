-- What is kept of a rank proof as it is read: its different entries, and its reasons.
use Rattle.std.specs.Prelude.{◌≡◌, ◌↔◌, ℕ, List, map, All, Option, Some, None}
use Rattle.std.specs.List.{Contains}
use Rattle.std.specs.Option.{ForSome}
use denote.Ref.{Bor}
use Rattle.hy_text.specs.Lines.{lines_of}
use Rattle.ltl_closure.specs.Nodes.{Node}
use Rattle.ltl_tableau.specs.Branches.{Members}
use Rattle.ltl_tableau.specs.Ranks.{Ranked, RankProof as Plain, IsUntilNode, IsRankProof}
use Rattle.rank_proofs.specs.declared.rank_proof.RankProof.{RankProof}
use Rattle.rank_proofs.specs.declared.rank_proof.ProofBranch.{ProofBranch}
use Rattle.rank_proofs.specs.Proofs.{ranked_of, plain_proof}
use Rattle.rank_proofs.specs.Readings.{MayBeEntry}
use Rattle.cert_text.specs.Lines.{Line}

-- The entries are those of the branches, in whatever order and however often.
abbrev pub AreOf : List ProofBranch → List Ranked → Type 0
AreOf branches entries = (e : Ranked) → Contains entries e ↔ Contains (map ranked_of branches) e

-- what is kept of branches, and the text that is left; none where one of them may be no entry of a
-- proof with n reasons
abbrev pub AreEntriesRead : List Node → ℕ → List ProofBranch → List Line → List Ranked
    → Option (Bor (List ℕ)) → Type 0
AreEntriesRead nodes n branches rest entries None =
    ¬ All (MayBeEntry nodes n) (map ranked_of branches)
AreEntriesRead nodes n branches rest entries (Some left) =
    AreOf branches entries × (lines_of left.now ≡ rest)

-- what is kept of a reason; none where it names no until
abbrev pub IsReasonRead : List Node → Option ℕ → Option (Option ℕ) → Type 0
IsReasonRead nodes said None = ¬ ForSome said (IsUntilNode nodes)
IsReasonRead nodes said (Some reason) = reason ≡ said

-- what is kept of reasons, and the text that is left; none where one of them names no until
abbrev pub AreReasonsRead : List Node → List (Option ℕ) → List Line → List (Option ℕ)
    → Option (Bor (List ℕ)) → Type 0
AreReasonsRead nodes said rest reasons None =
    ¬ All (λ reason. ForSome reason (IsUntilNode nodes)) said
AreReasonsRead nodes said rest reasons (Some left) =
    (reasons ≡ said) × (lines_of left.now ≡ rest)

-- what is kept of a proof
pub record IsKept (said : RankProof) (proof : Plain) : Type 0 where
  pub entries : AreOf said.branches proof.entries
  pub reasons : proof.reasons ≡ said.reasons

-- what is kept of a proof, and the text that is left; none where it is no rank proof, whatever the
-- roots
abbrev pub IsProofRead : List Node → RankProof → List Line → Plain → Option (Bor (List ℕ)) → Type 0
IsProofRead nodes said rest proof None =
    (roots : Members) → ¬ IsRankProof nodes roots (plain_proof said)
IsProofRead nodes said rest proof (Some left) = IsKept said proof × (lines_of left.now ≡ rest)
