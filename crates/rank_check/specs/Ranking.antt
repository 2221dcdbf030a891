-- Ranks that leave no fair walk.
use Rattle.std.specs.Prelude.{◌≡◌, ℕ, ◌<◌, ◌≤◌, length, Option, Some, None, IsSome, slice_index_or}
use Rattle.std.specs.List.{Contains, All}
use Rattle.std.specs.Option.{ForSome, IsSomeAnd}
use Rattle.rank_check.specs.declared.ranks.Ranks.{Ranks}
use Rattle.rank_check.specs.Graphs.{Shape, members_of, successors_of, IsEdge, Postpones}

abbrev pub rank_of : Ranks → ℕ → Option ℕ
rank_of r v = slice_index_or r.ranks v None

abbrev pub reason_of : Ranks → ℕ → Option ℕ
reason_of r k = slice_index_or r.reasons k None

-- what the reason of rank k says: all nodes of the rank postpone the until, or no edge stays in it
abbrev pub Explains : Shape → Ranks → ℕ → Option ℕ → Type 0
Explains g r k (Some until) = (v : ℕ) → v < length g.nodes → rank_of r v ≡ Some k
    → Postpones g v until
Explains g r k None = (v w : ℕ) → IsEdge g v w → rank_of r v ≡ Some k → ¬ (rank_of r w ≡ Some k)

-- what the rules say of a node of rank k and of what it leads to
abbrev pub FollowsAt : Shape → Ranks → ℕ → ℕ → Option ℕ → Type 0
FollowsAt g r v k (Some until) = Postpones g v until × All
    (λ w. IsSomeAnd (rank_of r w) (λ j. j ≤ k)) (successors_of g v)
FollowsAt g r v k None = All (λ w. IsSomeAnd (rank_of r w) (λ j. j < k)) (successors_of g v)

abbrev pub Follows : Shape → Ranks → ℕ → Type 0
Follows g r v = ForSome (rank_of r v) (λ k. FollowsAt g r v k (reason_of r k))

-- The three rules of ranks.
pub record IsRanked (g : Shape) (r : Ranks) : Type 0 where
  pub starts : (v : ℕ) → Contains (members_of g 0) v → IsSome (rank_of r v)
  pub falls : (v w k : ℕ) → IsEdge g v w → rank_of r v ≡ Some k
      → (j : ℕ) × (rank_of r w ≡ Some j) × (j ≤ k)
  pub explained : (k : ℕ) → Explains g r k (reason_of r k)
