use Rattle.std.proofs.Common.{ℕ, ◌<◌, IsSome, length, List, refl, subst, sym, arith}
use Rattle.std.proofs.lemmas.Bool.{true≢false}
use Rattle.std.specs.List.{All}
use Rattle.rank_check.specs.Ranking.{rank_of}
use Rattle.rank_check.proofs.Rules.{ranked-follows, ranked-from}
use Rattle.rank_check.proofs.check.check_ranks.Goals as goal

pub returns-then-not-follows : goal.returns-then-not-follows
returns-then-not-follows c = (
  λ no. absurd (true≢false (sym no)),
  λ ranked.
      let there : c.loop-node.node < length c.args.g.now.nodes = omega arith in
      c.if-not-follows.ensures.1 (ranked-follows c.args.g.now c.args.r.now ranked c.loop-node.node
      there),
)

pub returns : goal.returns
returns c = (
  λ _. ranked-from c.args.g.now c.args.r.now
      (subst (λ (xs : List ℕ). All (λ v. IsSome (rank_of c.args.r.now v)) xs) c.members.ensures
      (c.if-not-are_ranked.ensures.0 refl))
      (λ v there. c.loop-node.invariant v (omega arith)),
  λ _. refl,
)
