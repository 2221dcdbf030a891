use Rattle.std.proofs.Common.{◌≡◌, take}
use Rattle.hy_base.proofs.list.List.copy.Given as goal

-- what is made is the front
abbrev pub invariant-loop-x : goal.invariant-loop-x
invariant-loop-x g l = l.made ≡ take l.x-index l.x-items
