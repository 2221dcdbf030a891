use Rattle.std.proofs.Common.{arith}
use Rattle.aiger_read.proofs.OwnPlaces.{count_small}
use Rattle.aiger_read.proofs.symbol.place.Goals as goal

pub overflow_add-result : goal.overflow_add-result
overflow_add-result c = omega (arith, c.start.ensures.small, c.kind_number.ensures.within, count_small c.args.header.now c.requires.fits.short c.args.symbol.now.kind, c.requires.there)
