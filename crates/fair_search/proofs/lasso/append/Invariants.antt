use Rattle.std.proofs.Common.{◌≡◌, ◌++◌, take}
use Rattle.fair_search.proofs.lasso.append.Given as goal

abbrev pub invariant-loop-node : goal.invariant-loop-node
invariant-loop-node l = l.nodes ≡ l.initial.nodes ++ take l.node-index l.node-items
