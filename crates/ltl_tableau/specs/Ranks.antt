-- A rank proof: entries, each a branch with a rank, and for each rank a reason, so that no run of branches is fair.
use Rattle.std.specs.Prelude.{◌≡◌, ℕ, ◌<◌, ◌≤◌, true, List, length, Option, Some, None, slice_index_or}
use Rattle.std.specs.List.{All, Contains}
use Rattle.std.specs.Option.{ForSome}
use Rattle.hy_bits.specs.Sets.{AreBelow}
use Rattle.ltl_closure.specs.Nodes.{Node, node_at, until}
use Rattle.ltl_tableau.specs.Branches.{Members, Branch, IsBranch, postpones}

pub record Ranked : Type 0 where
  pub branch : Branch
  pub rank : ℕ

pub record RankProof : Type 0 where
  pub entries : List Ranked
  -- for each rank an until, or none
  pub reasons : List (Option ℕ)

abbrev pub reason_at : RankProof → ℕ → Option ℕ
reason_at proof r = slice_index_or proof.reasons r None

-- The sets of the branch are sets of members.
abbrev pub IsOfMembers : List Node → Branch → Type 0
IsOfMembers nodes b = AreBelow (length nodes) b.now × AreBelow (length nodes) b.later

-- The member is an until.
abbrev pub IsUntilNode : List Node → ℕ → Type 0
IsUntilNode nodes k = (g h : ℕ) × (node_at nodes k ≡ until g h)

-- Each branch of the set has an entry.
abbrev pub HasAll : List Node → List Ranked → Members → Type 0
HasAll nodes entries set = (b : Branch) → IsBranch nodes set b → (e : Ranked) × Contains entries e × (e.branch ≡ b)

-- what the reason of a rank says
abbrev pub Explains : List Node → List Ranked → ℕ → Option ℕ → Type 0
Explains nodes entries r (Some k) = (e : Ranked) → Contains entries e → e.rank ≡ r → postpones nodes e.branch k ≡ true
Explains nodes entries r None =
    (d e : Ranked) → Contains entries d → Contains entries e → d.rank ≡ r → e.rank ≡ r → ¬ IsBranch nodes d.branch.later e.branch

pub record IsRankProof (nodes : List Node) (roots : Members) (proof : RankProof) : Type 0 where
  pub members : All (λ e. IsOfMembers nodes e.branch) proof.entries
  pub ranked : All (λ e. e.rank < length proof.reasons) proof.entries
  pub untils : All (λ reason. ForSome reason (IsUntilNode nodes)) proof.reasons
  -- all branches of the roots are entries, and all of what an entry leaves for later
  pub begins : HasAll nodes proof.entries roots
  pub closed : (e : Ranked) → Contains proof.entries e → HasAll nodes proof.entries e.branch.later
  -- no edge leads to a higher rank
  pub falls : (d e : Ranked) → Contains proof.entries d → Contains proof.entries e → IsBranch nodes d.branch.later e.branch → e.rank ≤ d.rank
  -- all entries of the rank postpone the until, or no edge stays within the rank
  pub explained : (r : ℕ) → Explains nodes proof.entries r (reason_at proof r)
