use Rattle.std.proofs.Common.{get_or}
use Rattle.std.proofs.lemmas.Option.{slice_get-get_or}
use Rattle.ea_core.proofs.Lettering.{rows-more}
use Rattle.ea_core.proofs.lassos.rows.Goals as goal

pub loop-node-preserved : goal.loop-node-preserved
loop-node-preserved g c =
    rows-more c.args.c.now.nodes c.args.vars c.args.tableau.now.branches.keys c.args.nodes.now c.loop-node.node-index
    (get_or c.args.nodes.now c.loop-node.node-index 0) c.branch-tableau.result.now c.loop-node.rows c.push.new.self c.in_ok-letters.field-0
    (slice_get-get_or c.args.nodes.now c.loop-node.node-index 0 c.loop-node-test.true) c.branch-tableau.ensures c.in_ok-letters.ensures
    c.loop-node.invariant c.in_ok-push.ensures.added
