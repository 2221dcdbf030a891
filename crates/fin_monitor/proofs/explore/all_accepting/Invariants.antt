use Rattle.std.proofs.Common.{◌≡◌, map, take}
use Rattle.fin_monitor.specs.Duties.{accepts}
use Rattle.fin_monitor.specs.Lefts.{kept_lists}
use Rattle.fin_monitor.proofs.explore.all_accepting.Given as goal

abbrev pub invariant-loop-residual : goal.invariant-loop-residual
invariant-loop-residual g l = l.accepting ≡ map accepts (kept_lists (take l.residual-index l.residuals))
