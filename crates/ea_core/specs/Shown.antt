-- The letters of branches, and proofs by the ranks of branches.
use Rattle.std.specs.Prelude.{◌≡◌, ℕ, ◌<◌, ◌≤◌, List, map, length, Some, None, All, slice_index_or}
use Rattle.std.specs.List.{range_with_len}
use Rattle.hy_bits.specs.Letter.{Letter}
use Rattle.rank_check.specs.declared.ranks.Ranks.{Ranks}
use Rattle.rank_check.specs.Ranking.{rank_of, reason_of}
use Rattle.ltl_closure.specs.Nodes.{Node}
use Rattle.ltl_tableau.specs.Branches.{Branch}
use Rattle.ltl_tableau.specs.GraphWalks.{until_reason}
use Rattle.ltl_tableau.specs.Reached.{branch_at}
use Rattle.ltl_tableau.specs.WalkWords.{letter_of}
use Rattle.rank_proofs.specs.declared.rank_proof.RankProof.{RankProof}
use Rattle.rank_proofs.specs.declared.rank_proof.ProofBranch.{ProofBranch}
use Rattle.rank_proofs.specs.Proofs.{branch_of, IsAscending}

-- the letters of the first variables at a branch, and at the branches of nodes
abbrev pub letters_of : List Node → ℕ → Branch → List Letter
letters_of nodes vars branch = map (λ v. letter_of nodes v branch) (range_with_len 0 vars)

abbrev pub rows_of : List Node → ℕ → List Branch → List ℕ → List (List Letter)
rows_of nodes vars list walk = map (λ k. letters_of nodes vars (branch_at list k)) walk

-- The entries are the branches with these numbers, each with the rank of its node.
pub record AreEntries (list : List Branch) (ranks : Ranks) (entries : List ProofBranch) : Type 0 where
  pub branches : map branch_of entries ≡ list
  pub ranked : (v : ℕ) (d : ProofBranch) → v < length list → rank_of ranks v ≡ Some (slice_index_or entries v d).rank
  pub ascending : All IsAscending entries

-- The proof has these entries, and reasons for all their ranks and no more.
pub record Shows (nodes : List Node) (list : List Branch) (ranks : Ranks) (proof : RankProof) : Type 0 where
  pub entries : AreEntries list ranks proof.branches
  pub below : All (λ b. b.rank < length proof.reasons) proof.branches
  pub least : (n : ℕ) → All (λ b. b.rank < n) proof.branches → length proof.reasons ≤ n
  pub reasons : (r : ℕ) → r < length proof.reasons
      → slice_index_or proof.reasons r None ≡ until_reason nodes (reason_of ranks r)
