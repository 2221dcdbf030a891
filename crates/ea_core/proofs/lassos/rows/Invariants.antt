use Rattle.std.proofs.Common.{◌≡◌, take}
use Rattle.ea_core.specs.Shown.{rows_of}
use Rattle.ea_core.proofs.lassos.rows.Given as goal

abbrev pub invariant-loop-node : goal.invariant-loop-node
invariant-loop-node g l = l.rows ≡ rows_of l.c.nodes l.vars l.tableau.branches.keys (take l.node-index l.nodes)
