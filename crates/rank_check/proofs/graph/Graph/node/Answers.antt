use Rattle.std.proofs.Common.{◌<◌, ◌-◌, ◌^◌, length, sym, subst}
use Rattle.rank_check.specs.Graphs.{Shape}
use Rattle.rank_check.proofs.Keeping.{whole-node}
use Rattle.rank_check.proofs.graph.Graph.node.Goals as goal

pub invariant_of-self-2 : goal.invariant_of-self-2
invariant_of-self-2 c =
    let G : Shape → Type 0 = λ g. c.args.next_group < length g.groups in
    let F : Shape → Type 0 = λ g. length g.nodes < 2 ^ 32 - 1 in
    rw c.in_ok-push.ensures.items
    (whole-node _ c.self.invariant _ (subst G (sym c.self.view_is) c.requires.group)
    (subst F (sym c.self.view_is) c.requires.few))
