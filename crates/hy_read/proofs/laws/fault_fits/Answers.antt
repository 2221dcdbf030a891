use Rattle.hy_read.proofs.Fitting.{fault-fits}
use Rattle.hy_read.proofs.laws.fault_fits.Goals as goal

pub returns : goal.returns
returns c = fault-fits
