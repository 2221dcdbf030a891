use Rattle.cert_text.proofs.NumbersRead.{count_answer}
use Rattle.cert_text.proofs.numbers.is_count.Goals as goal

pub returns-in-Some : goal.returns-in-Some
returns-in-Some c = count_answer c.args.word.now c.in-Some.n c.in-Some.ensures.says
