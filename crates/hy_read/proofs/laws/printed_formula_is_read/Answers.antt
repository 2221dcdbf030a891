use Rattle.hy_read.proofs.PrintedFormulas.{printed_again, printed_over}
use Rattle.hy_read.proofs.laws.printed_formula_is_read.Goals as goal

pub returns-clause-over : goal.returns-clause-over
returns-clause-over c = printed_over

pub returns-clause-again : goal.returns-clause-again
returns-clause-again c = printed_again
