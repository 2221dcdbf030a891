-- The lines of a rank proof:
--
--     proof rank BRANCHES RANKS
--     a line for each branch: b RANK NOW NEXT
--     a line for each rank: u UNTIL or n
--
-- Whether a number names a rank, a member or an until is not asked here.
use Rattle.std.specs.Prelude.{◌≡◌, ℕ, List, [], ◌∷◌, ◌++◌, length, codes, Option, Some, None}
use Rattle.rank_proofs.specs.declared.rank_proof.RankProof.{RankProof}
use Rattle.rank_proofs.specs.declared.rank_proof.ProofBranch.{ProofBranch}
use Rattle.cert_text.specs.Lines.{Line, words_of, Say}
use Rattle.hy_text.specs.Numbers.{SaysNumber}
use Rattle.cert_text.specs.Numbers.{SaysMembers, SaysOne, SaysTwo}

-- how many branches and ranks there are
abbrev pub SaysRankHead : Line → ℕ → ℕ → Type 0
SaysRankHead = SaysTwo (codes "proof" ∷ codes "rank" ∷ [])

abbrev pub SaysBranch : Line → ProofBranch → Type 0
SaysBranch line branch =
    (rank now next : List ℕ) × (words_of line ≡ codes "b" ∷ rank ∷ now ∷ next ∷ [])
    × SaysNumber rank branch.rank × SaysMembers now branch.now × SaysMembers next branch.next

-- the until that a rank postpones, or that no edge stays in it
abbrev pub SaysReason : Line → Option ℕ → Type 0
SaysReason line None = line ≡ codes "n"
SaysReason line (Some until) = SaysOne (codes "u" ∷ []) line until

pub record SayRankProof (lines : List Line) (proof : RankProof) : Type 0 where
  pub head : Line
  pub branches : List Line
  pub reasons : List Line
  pub parts : lines ≡ head ∷ (branches ++ reasons)
  pub counts : SaysRankHead head (length proof.branches) (length proof.reasons)
  pub entries : Say SaysBranch branches proof.branches
  pub ranks : Say SaysReason reasons proof.reasons
