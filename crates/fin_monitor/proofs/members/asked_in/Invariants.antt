use Rattle.std.proofs.Common.{take}
use Rattle.fin_monitor.specs.Lefts.{IsAskedAll}
use Rattle.fin_monitor.proofs.members.asked_in.Given as goal

abbrev pub invariant-loop-d : goal.invariant-loop-d
invariant-loop-d g l = IsAskedAll l.masks (take l.d-index l.residual) l.mask
