use Rattle.std.proofs.Common.{◌≡◌, replicate, []}
use Rattle.rank_check.proofs.graph.Graph.new.Given as goal

abbrev pub invariant-loop-group : goal.invariant-loop-group
invariant-loop-group l = l.lists.items ≡ replicate l._group []
