-- What is read of a rank proof, of which nothing is known but its numbers.
use Rattle.std.specs.Prelude.{◌≡◌, ℕ, ◌<◌, List, length, Option, Some, None}
use Rattle.hy_bits.specs.Sets.{AreBelow}
use Rattle.ltl_closure.specs.Nodes.{Node}
use Rattle.ltl_tableau.specs.Branches.{Members}
use Rattle.ltl_tableau.specs.Ranks.{Ranked, IsOfMembers, IsUntilNode}
use Rattle.ltl_tableau.specs.Tasks.{set_of}
use Rattle.rank_proofs.specs.declared.rank_proof.ProofBranch.{ProofBranch}
use Rattle.rank_proofs.specs.Proofs.{ranked_of}

-- the set of the numbers, where all are those of members
abbrev pub IsSetRead : List Node → List ℕ → Option Members → Type 0
IsSetRead nodes numbers (Some set) = (set ≡ set_of numbers) × AreBelow (length nodes) set
IsSetRead nodes numbers None = ¬ AreBelow (length nodes) (set_of numbers)

-- The entry may be one of a proof with n reasons.
abbrev pub MayBeEntry : List Node → ℕ → Ranked → Type 0
MayBeEntry nodes n e = IsOfMembers nodes e.branch × (e.rank < n)

-- an entry by its numbers, where it may be one
abbrev pub IsEntryRead : List Node → ℕ → ProofBranch → Option Ranked → Type 0
IsEntryRead nodes n said (Some e) = (e ≡ ranked_of said) × MayBeEntry nodes n e
IsEntryRead nodes n said None = ¬ MayBeEntry nodes n (ranked_of said)

-- an until by its number, where it is one
abbrev pub IsUntilRead : List Node → ℕ → Option ℕ → Type 0
IsUntilRead nodes number (Some k) = (k ≡ number) × IsUntilNode nodes k
IsUntilRead nodes number None = ¬ IsUntilNode nodes number
