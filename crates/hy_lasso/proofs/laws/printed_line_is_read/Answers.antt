use Rattle.hy_lasso.proofs.PrintedLines.{line_no_feed, line_says, same_lasso, line_read_back}
use Rattle.hy_lasso.proofs.laws.printed_line_is_read.Goals as goal

pub returns-clause-one_line : goal.returns-clause-one_line
returns-clause-one_line c = line_no_feed

pub returns-clause-says : goal.returns-clause-says
returns-clause-says c = line_says

pub returns-clause-same : goal.returns-clause-same
returns-clause-same c = same_lasso

pub returns-clause-read : goal.returns-clause-read
returns-clause-read c = line_read_back
