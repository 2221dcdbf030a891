use Rattle.std.proofs.Common.{◌≡◌, [], replicate}
use Rattle.sat_core.proofs.lists.Lists.new.Given as goal

abbrev pub invariant-loop-place : goal.invariant-loop-place
invariant-loop-place l = l.lists.items ≡ replicate l._place []
