use Rattle.hy_lasso.proofs.PrintedLines.{printed_read}
use Rattle.hy_lasso.proofs.laws.printed_lassos_are_read.Goals as goal

pub returns : goal.returns
returns c = printed_read
