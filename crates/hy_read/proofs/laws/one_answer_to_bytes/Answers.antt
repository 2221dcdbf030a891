use Rattle.hy_read.proofs.Spanning.{answer-once}
use Rattle.hy_read.proofs.laws.one_answer_to_bytes.Goals as goal

pub returns-clause-once : goal.returns-clause-once
returns-clause-once c = answer-once
