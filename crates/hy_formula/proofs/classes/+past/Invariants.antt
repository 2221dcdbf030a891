use Rattle.std.proofs.Common.{length}
use Rattle.hy_formula.proofs.classes.+past.Given as goal

abbrev pub decreases-past : goal.decreases-past
decreases-past l = length l.quants.now
