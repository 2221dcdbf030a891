use Rattle.std.proofs.Common.{◌≡◌, false, take}
use Rattle.fin_monitor.specs.Duties.{accepts}
use Rattle.fin_monitor.proofs.explore.is_accepting.Given as goal

abbrev pub invariant-loop-d : goal.invariant-loop-d
invariant-loop-d g l = accepts (take l.d-index l.residual) ≡ false
