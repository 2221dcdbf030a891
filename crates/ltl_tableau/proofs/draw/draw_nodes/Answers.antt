use Rattle.std.proofs.Common.{◌∷◌, [], List, ℕ, length, length-append, get_or, ap, ◌∙◌, arith}
use Rattle.rank_check.specs.declared.graph.Node.{Node as Vertex}
use Rattle.ltl_tableau.proofs.Drawing.{nodes-push}
use Rattle.ltl_tableau.proofs.draw.draw_nodes.Goals as goal

pub loop-branch-preserved : goal.loop-branch-preserved
loop-branch-preserved g c =
    let inv = c.loop-branch.invariant in
    let added = c.in_ok-node.ensures.added in
    let groups = c.in_ok-node.ensures.groups in
    let vertex : Vertex = record { next_group = c.place_of-group.result; postponed = c.in_ok-postponed.postponed } in
    record {
      count = omega (arith, ap length added, length-append c.loop-branch.graph.nodes (vertex ∷ []), inv.count);
      groups = ap length groups ∙ inv.groups;
      empty = λ j. ap (λ (gs : List (List ℕ)). get_or gs j []) groups ∙ inv.empty j;
      each = nodes-push c.args.c.now.nodes c.args.sets.now.keys _ c.loop-branch.graph.nodes c.node.new.self.nodes vertex c.branch-item.result c.loop-branch.branch-index inv.count added c.loop-branch-test.true c.branch-item.is
          (record { named = c.place_of-group.ensures.within; leads = c.place_of-group.ensures.at; postponed = c.in_ok-postponed.ensures }) inv.each;
    }
