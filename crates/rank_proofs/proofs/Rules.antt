-- The rules of a rank proof, entry by entry.
use Rattle.std.proofs.Common.{◌≡◌, ℕ, ◌<◌, ◌≤◌, List, length, Option, Some, None, inl, inr, refl, subst, arith}
use Rattle.std.specs.List.{All, Contains}
use Rattle.std.specs.Option.{ForSome}
use Rattle.std.proofs.lemmas.Bool.{cases_lt}
use Rattle.std.proofs.lemmas.List.Elements.{All-contains, All-weaker, All-contains_itself}
use Rattle.ltl_closure.specs.Nodes.{Node}
use Rattle.ltl_tableau.specs.Branches.{Members}
use Rattle.ltl_tableau.specs.Ranks.{Ranked, RankProof, reason_at, IsOfMembers, IsUntilNode, Explains, IsRankProof}
use Rattle.rank_proofs.specs.Edges.{IsEdge, Follows, IsPlaced, ArePlaced}

module _ (nodes : List Node) (roots : Members) (proof : RankProof) where
  -- what the reason of its rank says of an entry
  follows-at : IsRankProof nodes roots proof → (d : Ranked) → Contains proof.entries d
      → (reason : Option ℕ) → Explains nodes proof.entries d.rank reason
      → Follows nodes proof.entries d reason
  follows-at is d there (Some k) why =
      (why d there refl, λ e (listed, edge). is.falls d e there listed edge)
  follows-at is d there None why = λ e (listed, edge).
      let most = is.falls d e there listed edge in
      elim (cases_lt e.rank d.rank) [
        | inl lt ↦ lt
        | inr le ↦ absurd (why d e there listed refl (omega arith) edge)
      ]

  placed-one : IsRankProof nodes roots proof → (d : Ranked) → Contains proof.entries d
      → IsPlaced nodes proof d
  placed-one is d there = record {
    members = All-contains (λ e. IsOfMembers nodes e.branch) proof.entries d is.members there;
    ranked = All-contains (λ e. e.rank < length proof.reasons) proof.entries d is.ranked there;
    closed = is.closed d there;
    follows = follows-at is d there (reason_at proof d.rank) (is.explained d.rank);
  }

  pub placed-all : IsRankProof nodes roots proof → ArePlaced nodes roots proof
  placed-all is = record {
    begins = is.begins;
    placed =
        All-weaker (Contains proof.entries) (IsPlaced nodes proof) (placed-one is) proof.entries
        (All-contains_itself proof.entries);
  }

  -- the edges of an entry that follows do not rise
  not-higher : (d e : Ranked) (reason : Option ℕ) → Follows nodes proof.entries d reason
      → IsEdge nodes proof.entries d e → e.rank ≤ d.rank
  not-higher d e (Some k) (late, below) edge = below e edge
  not-higher d e None below edge = let lt = below e edge in omega arith

  explains-at : (r : ℕ) (reason : Option ℕ)
      → ((d : Ranked) → Contains proof.entries d → d.rank ≡ r
      → Follows nodes proof.entries d reason) → Explains nodes proof.entries r reason
  explains-at r (Some k) all = λ e there at. (all e there at).0
  explains-at r None all = λ d e there listed at at' edge.
      let lt : e.rank < d.rank = all d there at e (listed, edge) in omega arith

  pub from-placed : All (λ reason. ForSome reason (IsUntilNode nodes)) proof.reasons
      → ArePlaced nodes roots proof → IsRankProof nodes roots proof
  from-placed untils is =
      let at : (d : Ranked) → Contains proof.entries d → IsPlaced nodes proof d =
      λ d there. All-contains (IsPlaced nodes proof) proof.entries d is.placed there in
      let each : (P : Ranked → Type 0) → ((d : Ranked) → IsPlaced nodes proof d → P d)
      → All P proof.entries =
      λ P all. All-weaker (IsPlaced nodes proof) P all proof.entries is.placed in
      record {
        members = each (λ e. IsOfMembers nodes e.branch) (λ d p. p.members);
        ranked = each (λ e. e.rank < length proof.reasons) (λ d p. p.ranked);
        untils = untils;
        begins = is.begins;
        closed = λ d there. (at d there).closed;
        falls = λ d e there listed edge.
            not-higher d e (reason_at proof d.rank) (at d there).follows (listed, edge);
        explained = λ r. explains-at r (reason_at proof r) (λ d there same.
            subst (λ q. Follows nodes proof.entries d (reason_at proof q)) same
            (at d there).follows);
      }
