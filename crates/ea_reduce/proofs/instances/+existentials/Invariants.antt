use Rattle.std.proofs.Common.{length}
use Rattle.ea_reduce.proofs.instances.+existentials.Given as goal

abbrev pub decreases-existentials : goal.decreases-existentials
decreases-existentials l = length l.quants.now
