-- A rank proof by what its entries are, and not by their order or how often each is there.
use Rattle.std.proofs.Common.{◌≡◌, ℕ, ◌<◌, List, length, get_or, Option, Some, None, subst}
use Rattle.std.specs.List.{All, Contains}
use Rattle.std.specs.Option.{ForSome}
use Rattle.std.proofs.lemmas.List.Elements.{All-contains, All-weaker, All-contains_itself}
use Rattle.ltl_closure.specs.Nodes.{Node}
use Rattle.ltl_tableau.specs.Branches.{Members}
use Rattle.ltl_tableau.specs.Ranks.{Ranked, RankProof, reason_at, IsOfMembers, IsUntilNode, HasAll, Explains, IsRankProof}

module _ (nodes : List Node) (roots : Members) (p q : RankProof) (same : p.reasons ≡ q.reasons)
    (there : (e : Ranked) → Contains q.entries e → Contains p.entries e)
    (back : (e : Ranked) → Contains p.entries e → Contains q.entries e) where
  each : (P : Ranked → Type 0) → All P p.entries → All P q.entries
  each P h =
      All-weaker (Contains q.entries) P (λ e c. All-contains P p.entries e h (there e c)) q.entries
      (All-contains_itself q.entries)

  has-all : (s : Members) → HasAll nodes p.entries s → HasAll nodes q.entries s
  has-all s h b is = let (e, c, of) = h b is in (e, back e c, of)

  explains : (r : ℕ) (reason : Option ℕ) → Explains nodes p.entries r reason
      → Explains nodes q.entries r reason
  explains r (Some k) why = λ e c at. why e (there e c) at
  explains r None why = λ d e c c' at at' edge. why d e (there d c) (there e c') at at' edge

  pub same-entries : IsRankProof nodes roots p → IsRankProof nodes roots q
  same-entries is =
      let R : List (Option ℕ) → Type 0 = λ rs. All (λ e. e.rank < length rs) p.entries in
      let U : List (Option ℕ) → Type 0 = All (λ reason. ForSome reason (IsUntilNode nodes)) in
      let E : ℕ → List (Option ℕ) → Type 0 =
      λ r rs. Explains nodes p.entries r (get_or rs r None) in
      record {
        members = each (λ e. IsOfMembers nodes e.branch) is.members;
        ranked = each (λ e. e.rank < length q.reasons) (subst R same is.ranked);
        untils = subst U same is.untils;
        begins = has-all roots is.begins;
        closed = λ e c. has-all e.branch.later (is.closed e (there e c));
        falls = λ d e c c' edge. is.falls d e (there d c) (there e c') edge;
        explained = λ r. explains r (reason_at q r) (subst (E r) same (is.explained r));
      }
