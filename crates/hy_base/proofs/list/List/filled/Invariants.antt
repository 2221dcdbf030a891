use Rattle.std.proofs.Common.{◌≡◌, replicate}
use Rattle.hy_base.proofs.list.List.filled.Given as goal

abbrev pub invariant-loop-copy : goal.invariant-loop-copy
invariant-loop-copy g l = l.made ≡ replicate l._copy l.x
