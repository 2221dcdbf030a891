use Rattle.std.proofs.Common.{length}
use Rattle.ea_reduce.proofs.instances.+maps_of.Given as goal

abbrev pub decreases-maps_of : goal.decreases-maps_of
decreases-maps_of l = length l.quants.now
