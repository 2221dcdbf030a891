-- The text of a rank proof: how many branches and ranks it has, a line for each branch and a line for each rank.
use Rattle.std.specs.Prelude.{ℕ, List, [], ◌∷◌, ◌++◌, map, length, codes, decimal, Option, Some, None}
use Rattle.std.specs.List.{flat_map, join_with_byte}
use Rattle.rank_proofs.specs.declared.rank_proof.RankProof.{RankProof}
use Rattle.rank_proofs.specs.declared.rank_proof.ProofBranch.{ProofBranch}

-- numbers with commas between them, and `-` where there are none
abbrev pub numbers_text : List ℕ → List ℕ
numbers_text [] = codes "-"
numbers_text (k ∷ ks) = join_with_byte 44 (map decimal (k ∷ ks))

abbrev pub branch_text : ProofBranch → List ℕ
branch_text b = codes "b " ++ decimal b.rank ++ codes " " ++ numbers_text b.now ++ codes " " ++ numbers_text b.next ++ codes "\n"

-- the until that a rank postpones, or that no edge stays in it
abbrev pub reason_text : Option ℕ → List ℕ
reason_text (Some until) = codes "u " ++ decimal until ++ codes "\n"
reason_text None = codes "n\n"

abbrev pub proof_text : RankProof → List ℕ
proof_text proof =
    codes "proof rank " ++ decimal (length proof.branches) ++ codes " " ++ decimal (length proof.reasons) ++ codes "\n"
    ++ flat_map branch_text proof.branches ++ flat_map reason_text proof.reasons
