use Rattle.std.proofs.Common.{refl, arith}
use Rattle.aiger_print.proofs.binary.push_groups.Goals as goal

pub loop-left-init : goal.loop-left-init
loop-left-init c = (9, omega (arith, c.ranges.n.fits), refl)
