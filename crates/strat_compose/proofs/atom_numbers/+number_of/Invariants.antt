-- What `number_of` keeps on its way.
use Rattle.std.proofs.Common.{length}
use Rattle.strat_compose.proofs.atom_numbers.+number_of.Given as goal

abbrev pub decreases-number_of : goal.decreases-number_of
decreases-number_of l = length l.atoms.now
