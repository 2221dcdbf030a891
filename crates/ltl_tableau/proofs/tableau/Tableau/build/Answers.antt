use Rattle.std.proofs.Common.{List, length, refl, sym, ap, ◌∙◌, subst, arith}
use Rattle.rank_check.specs.declared.graph.Node.{Node as Vertex}
use Rattle.ltl_closure.proofs.Tasks.{same-error}
use Rattle.ltl_tableau.specs.Branches.{Members}
use Rattle.ltl_tableau.specs.Reached.{HasMore, AreNodes}
use Rattle.ltl_tableau.proofs.Drawing.{explores-start, groups-start, root-is, is-tableau}
use Rattle.ltl_tableau.proofs.tableau.Tableau.build.Goals as goal

pub loop-explored-init : goal.loop-explored-init
loop-explored-init g c =
    let start = c.in_ok-explored.ensures in
    record {
      explores = explores-start c.args.c.now.nodes c.root_set.result c.in_ok-explored.explored.sets.keys c.in_ok-explored.explored.branches.keys start.sets start.branches;
      groups = groups-start c.args.c.now.nodes c.args.states _ _ c.in_ok-explored.explored.groups start.groups;
      few = omega (arith, ap length start.branches);
      fewer = omega (arith, ap length start.groups);
      root = refl;
    }

pub loop-explored-preserved : goal.loop-explored-preserved
loop-explored-preserved g c =
    let inv = c.loop-explored.invariant in
    let done = c.in_ok-explore.ensures in
    record {
      explores = done.explores;
      groups = done.groups;
      few = done.few;
      fewer = omega (arith, done.one, done.grows.more_sets, c.len.ensures, c.len-in-loop-explored.ensures.len, c.loop-explored-test.true);
      root = done.grows.sets_stay 0 inv.explores.some ∙ inv.root;
    }

pub returns-in_err-explore-clause-states : goal.returns-in_err-explore-clause-states
returns-in_err-explore-clause-states g c is =
    let P : Members → Type 0 = λ r. HasMore c.args.c.now.nodes r c.args.states in
    subst P (c.loop-explored.invariant.root ∙ (root-is c.in_ok-explored.explored.sets.keys c.root_set.result _ c.in_ok-explored.ensures.sets c.root_set.ensures))
    (c.in_err-explore.ensures.states (same-error c.from_residual-in_err-explore.result _ _ c.from_residual-in_err-explore.ensures.1 is))

pub draw_groups-requires-clause-made : goal.draw_groups-requires-clause-made
draw_groups-requires-clause-made g c = λ j v h. omega (arith, c.loop-explored.invariant.groups.inside j v h, c.in_ok-graph.ensures.nodes.count)

pub returns-clause-tableau : goal.returns-clause-tableau
returns-clause-tableau g c =
    let inv = c.loop-explored.invariant in
    let P : List Vertex → Type 0 = AreNodes c.args.c.now.nodes c.loop-explored.explored.sets.keys c.loop-explored.explored.branches.keys in
    is-tableau c.args.c.now.nodes c.args.states _ c.loop-explored.explored.sets.keys c.loop-explored.explored.branches.keys c.loop-explored.explored.groups c.draw_groups.new.graph
    (inv.root ∙ (root-is c.in_ok-explored.explored.sets.keys c.root_set.result _ c.in_ok-explored.ensures.sets c.root_set.ensures)) inv.explores inv.groups (omega (arith, c.len.ensures, c.len-in-loop-explored.ensures.len, c.loop-explored-test.false))
    (subst P (sym c.in_ok-draw_groups.ensures.nodes) c.in_ok-graph.ensures.nodes) c.in_ok-draw_groups.ensures.groups
