use Rattle.std.proofs.Common.{arith}
use Rattle.hy_finite.proofs.LineAnswers.{no-line}
use Rattle.hy_finite.proofs.begun.begin_text.Goals as goal

pub returns : goal.returns
returns c =
    no-line c.args.text.now c.args.first c.requires.0 c.requires.1 (omega arith) (omega arith)
    (omega arith)
