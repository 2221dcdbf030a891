use Rattle.std.proofs.Common.{◌<◌, ◌-◌, ◌^◌, length, sym, subst, []}
use Rattle.std.proofs.lemmas.List.{get_or_read}
use Rattle.rank_check.specs.Graphs.{Shape, members_of}
use Rattle.rank_check.proofs.Keeping.{whole-member}
use Rattle.rank_check.proofs.graph.Graph.member.Goals as goal

pub invariant_of-self-2 : goal.invariant_of-self-2
invariant_of-self-2 c =
    let groups = c.self.inside.groups.items in
    let g : Shape = record { groups = groups; nodes = c.self.inside.nodes.items } in
    let G : Shape → Type 0 = λ g. c.args.group < length g.groups in
    let N : Shape → Type 0 = λ g. c.args.node < length g.nodes in
    let F : Shape → Type 0 = λ g. length (members_of g c.args.group) < 2 ^ 32 - 1 in
    let there = subst G (sym c.self.view_is) c.requires.group in
    let whole =
    whole-member g c.self.invariant c.args.group c.args.node there
    (subst N (sym c.self.view_is) c.requires.node) (subst F (sym c.self.view_is) c.requires.few)
    in
    rw (
      c.in_ok-push.ensures.added,
      get_or_read groups c.args.group c.index_mut.result.now there
          c.index_mut.ensures.value [],
    ) whole
