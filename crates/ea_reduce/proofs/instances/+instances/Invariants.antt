use Rattle.std.proofs.Common.{length}
use Rattle.ea_reduce.proofs.instances.+instances.Given as goal

abbrev pub decreases-instances : goal.decreases-instances
decreases-instances l = length l.quants.now
