use Rattle.hy_lasso.proofs.OneAnswer.{one_answer}
use Rattle.hy_lasso.proofs.laws.one_answer.Goals as goal

pub returns : goal.returns
returns c = one_answer
