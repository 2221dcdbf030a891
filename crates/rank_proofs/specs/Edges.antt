-- Edges between the entries of a rank proof, and the greatest rank to which some of them lead.
use Rattle.std.specs.Prelude.{◌≡◌, ℕ, ◌<◌, ◌≤◌, true, List, length, Option, Some, None}
use Rattle.std.specs.List.{All, Contains}
use Rattle.std.specs.Option.{ForSome}
use Rattle.ltl_closure.specs.Nodes.{Node}
use Rattle.ltl_tableau.specs.Branches.{Members, Branch, branches, postpones}
use Rattle.ltl_tableau.specs.Ranks.{Ranked, RankProof, reason_at, IsOfMembers, HasAll}

-- The rank is the greatest of the entries of which P holds, or none where it holds of none.
abbrev pub IsGreatest : (P : Ranked → Type 0) → Option ℕ → Type 0
IsGreatest P None = (e : Ranked) → ¬ P e
IsGreatest P (Some r) = ((e : Ranked) → P e → e.rank ≤ r) × ((e : Ranked) × P e × (e.rank ≡ r))

-- an entry of the branch
abbrev pub IsOf : List Ranked → Branch → Ranked → Type 0
IsOf entries b e = Contains entries e × (e.branch ≡ b)

-- an entry of one of the branches
abbrev pub IsAmong : List Ranked → List Branch → Ranked → Type 0
IsAmong entries list e = Contains entries e × Contains list e.branch

-- All the branches have entries, and the top is the greatest of their ranks.
pub record IsTop (entries : List Ranked) (list : List Branch) (top : Option ℕ) : Type 0 where
  pub listed : (b : Branch) → Contains list b → (e : Ranked) × Contains entries e × (e.branch ≡ b)
  pub greatest : IsGreatest (IsAmong entries list) top

-- ---- the rules of an entry

-- An edge leads from the one to the other.
abbrev pub IsEdge : List Node → List Ranked → Ranked → Ranked → Type 0
IsEdge nodes entries d e = IsAmong entries (branches nodes d.branch.later) e

-- by the reason of its rank
abbrev pub Follows : List Node → List Ranked → Ranked → Option ℕ → Type 0
Follows nodes entries d (Some k) =
    (postpones nodes d.branch k ≡ true)
    × ((e : Ranked) → IsEdge nodes entries d e → e.rank ≤ d.rank)
Follows nodes entries d None = (e : Ranked) → IsEdge nodes entries d e → e.rank < d.rank

-- by the top of what it leaves for later, and the reason
abbrev pub Allows : List Node → Ranked → Option ℕ → Option ℕ → Type 0
Allows nodes d top (Some k) = (postpones nodes d.branch k ≡ true) × ForSome top (λ r. r ≤ d.rank)
Allows nodes d top None = ForSome top (λ r. r < d.rank)

-- All that is asked of an entry.
pub record IsPlaced (nodes : List Node) (proof : RankProof) (d : Ranked) : Type 0 where
  pub members : IsOfMembers nodes d.branch
  pub ranked : d.rank < length proof.reasons
  pub closed : HasAll nodes proof.entries d.branch.later
  pub follows : Follows nodes proof.entries d (reason_at proof d.rank)

-- All that is asked of the entries.
pub record ArePlaced (nodes : List Node) (roots : Members) (proof : RankProof) : Type 0 where
  pub begins : HasAll nodes proof.entries roots
  pub placed : All (IsPlaced nodes proof) proof.entries
