-- Walks and ranks of the graph of a tableau, by the branches of its nodes.
use Rattle.std.specs.Prelude.{◌≡◌, ℕ, ◌<◌, List, map, length, Option, Some, None, slice_index_or}
use Rattle.std.specs.List.{All}
use Rattle.hy_formula.specs.Lassos.{Lasso}
use Rattle.rank_check.specs.declared.ranks.Ranks.{Ranks}
use Rattle.rank_check.specs.Ranking.{rank_of, reason_of}
use Rattle.ltl_closure.specs.Nodes.{Node, node_at, until}
use Rattle.ltl_tableau.specs.Branches.{Branch}
use Rattle.ltl_tableau.specs.Ranks.{Ranked, RankProof, reason_at}
use Rattle.ltl_tableau.specs.Reached.{branch_at}
use Rattle.ltl_tableau.specs.Walks.{no_branch}

-- the branches of the nodes of a stem and a cycle
abbrev pub walk_of : List Branch → List ℕ → List ℕ → Lasso Branch
walk_of list stem cycle =
    record { stem = map (branch_at list) stem; cycle = map (branch_at list) cycle }

-- the member as a reason, where its node is an until
abbrev pub if_until : ℕ → Node → Option ℕ
if_until k (until g h) = Some k
if_until k _ = None

abbrev pub until_reason : List Node → Option ℕ → Option ℕ
until_reason nodes (Some k) = if_until k (node_at nodes k)
until_reason nodes None = None

abbrev pub no_entry : Ranked
no_entry = record { branch = no_branch; rank = 0 }

abbrev pub entry_at : List Ranked → ℕ → Ranked
entry_at entries v = slice_index_or entries v no_entry

-- The entries are the branches in their order, each with the rank of its node, and there are reasons for all their
-- ranks. A reason that is no until, as a rank without nodes may have, is left out.
pub record HasRanks (nodes : List Node) (list : List Branch) (ranks : Ranks)
    (proof : RankProof) : Type 0 where
  pub count : length proof.entries ≡ length list
  pub branches : (v : ℕ) → v < length list → (entry_at proof.entries v).branch ≡ branch_at list v
  pub ranked : (v : ℕ) → v < length list → rank_of ranks v ≡ Some (entry_at proof.entries v).rank
  pub below : All (λ e. e.rank < length proof.reasons) proof.entries
  pub reasons : (r : ℕ) → r < length proof.reasons
      → reason_at proof r ≡ until_reason nodes (reason_of ranks r)
