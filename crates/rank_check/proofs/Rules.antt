-- The three rules of ranks, node by node.
use Rattle.std.proofs.Common.{◌≡◌, ℕ, ◌<◌, ◌≤◌, length, List, Option, Some, None, IsSome, refl, sym, ◌∙◌, subst, arith}
use Rattle.std.specs.List.{Contains, All}
use Rattle.std.specs.Option.{IsSomeAnd}
use Rattle.std.proofs.lemmas.List.Elements.{All-contains, Contains-get_or}
use Rattle.std.proofs.Math.Nat.{lt_irrefl}
use Rattle.rank_check.specs.declared.ranks.Ranks.{Ranks}
use Rattle.rank_check.specs.Graphs.{Shape, members_of, successors_of, IsEdge}
use Rattle.rank_check.specs.Ranking.{rank_of, reason_of, Explains, FollowsAt, Follows, IsRanked}

-- a fact of each element, from one of each that is contained
all_from : {X : Type 0} (P : X → Type 0) (xs : List X) → ((x : X) → Contains xs x → P x) → All P xs
all_from P xs each k d lt = each _ (Contains-get_or xs k d lt)

some_and : (o : Option ℕ) (P : ℕ → Type 0) (j : ℕ) → o ≡ Some j → P j → IsSomeAnd o P
some_and o P j is holds = let Q : Option ℕ → Type 0 = λ o. IsSomeAnd o P in subst Q (sym is) holds

and_some : (o : Option ℕ) (P : ℕ → Type 0) → IsSomeAnd o P → (j : ℕ) × (o ≡ Some j) × P j
and_some (Some j) P holds = (j, refl, holds)
and_some None P holds = absurd holds

module _ (g : Shape) (r : Ranks) where
  follows-at : IsRanked g r → (v k : ℕ) → v < length g.nodes → rank_of r v ≡ Some k
      → (reason : Option ℕ) → Explains g r k reason → FollowsAt g r v k reason
  follows-at ranked v k there is (Some until) why = (
    why v there is,
    all_from _ (successors_of g v) (λ w next.
        let (j, at, below) = ranked.falls v w k (there, next) is in
        some_and (rank_of r w) (λ j. j ≤ k) j at below),
  )
  follows-at ranked v k there is None why =
      all_from _ (successors_of g v) (λ w next.
      let (j, at, below) = ranked.falls v w k (there, next) is in
      let P : ℕ → Type 0 = λ j. rank_of r w ≡ Some j in
      let apart : j ≡ k → ⊥ = λ e. why v w (there, next) is (subst P e at) in
      some_and (rank_of r w) (λ j. j < k) j at (omega arith))

  pub ranked-follows : IsRanked g r → (v : ℕ) → v < length g.nodes → Follows g r v
  ranked-follows ranked v there =
      λ k is. follows-at ranked v k there is (reason_of r k) (ranked.explained k)

  -- without a reason the rank falls
  under : (v w k : ℕ) → FollowsAt g r v k None → Contains (successors_of g v) w
      → (j : ℕ) × (rank_of r w ≡ Some j) × (j < k)
  under v w k holds next =
      and_some (rank_of r w) (λ j. j < k) (All-contains (λ w. IsSomeAnd (rank_of r w) (λ j. j < k))
      (successors_of g v) w holds next)

  falls-at : (v w k : ℕ) → IsEdge g v w → (reason : Option ℕ) → FollowsAt g r v k reason
      → (j : ℕ) × (rank_of r w ≡ Some j) × (j ≤ k)
  falls-at v w k edge (Some until) holds =
      and_some (rank_of r w) (λ j. j ≤ k) (All-contains (λ w. IsSomeAnd (rank_of r w) (λ j. j ≤ k))
      (successors_of g v) w holds.1 edge.1)
  falls-at v w k edge None holds =
      let (j, at, below) = under v w k holds edge.1 in
      (j, at, omega arith)

  explained-at : (k : ℕ) (reason : Option ℕ) →
      ((v : ℕ) → v < length g.nodes → rank_of r v ≡ Some k → FollowsAt g r v k reason)
      → Explains g r k reason
  explained-at k (Some until) each = λ v there is. (each v there is).0
  explained-at k None each = λ v w edge is same.
      let (j, at, below) = under v w k (each v edge.0 is) edge.1 in
      let e : Some j ≡ Some k = sym at ∙ same in
      let clash : j ≡ k = cc in
      lt_irrefl k (let P : ℕ → Type 0 = λ n. n < k in subst P clash below)

  pub ranked-from : All (λ v. IsSome (rank_of r v)) (members_of g 0)
      → ((v : ℕ) → v < length g.nodes → Follows g r v) → IsRanked g r
  ranked-from starts each = record {
    starts = λ v in_start. All-contains (λ v. IsSome (rank_of r v)) (members_of g 0) v starts
        in_start;
    falls = λ v w k edge is. falls-at v w k edge (reason_of r k) (each v edge.0 k is);
    explained = λ k. explained-at k (reason_of r k) (λ v there is. each v there k is);
  }
