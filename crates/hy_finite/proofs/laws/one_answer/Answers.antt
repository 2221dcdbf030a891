use Rattle.hy_finite.proofs.OneAnswer.{one-line_answer, one-file_answer}
use Rattle.hy_finite.proofs.laws.one_answer.Goals as goal

pub returns-clause-line : goal.returns-clause-line
returns-clause-line c = one-line_answer

pub returns-clause-file : goal.returns-clause-file
returns-clause-file c = one-file_answer
