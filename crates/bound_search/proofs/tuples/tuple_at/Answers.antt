use Rattle.std.proofs.Common.{ℕ, List, All, ◌<◌, subst, sym}
use Rattle.std.proofs.lemmas.List.Elements.{All-push}
use Rattle.hy_base.proofs.Listed.{listed_next}
use Rattle.bound_search.proofs.tuples.tuple_at.Goals as goal

pub loop-v-preserved : goal.loop-v-preserved
loop-v-preserved c = record {
  tuple = listed_next _ c.loop-v.v _ _ _ c.loop-v.invariant.tuple c.in_ok-push.ensures.added
      c.member_at.ensures.member;
  members =
      let P : List ℕ → Type 0 = All (λ k. k < c.args.frame.traces) in
      subst P (sym c.in_ok-push.ensures.added) (All-push (λ k. k < c.args.frame.traces) _ _
      c.loop-v.invariant.members
      c.member_at.ensures.few);
}
