use Rattle.std.proofs.Common.{arith}
use Rattle.cert_text.proofs.NumbersRead.{same_number}
use Rattle.induction_judge.proofs.clauses.latch_literal.Goals as goal

pub returns-in_default : goal.returns-in_default
returns-in_default c = λ (n, (says, below)). c.in_default.ensures.says n says

pub returns-else-latch-latches : goal.returns-else-latch-latches
returns-else-latch-latches c = λ (n, (says, below)).
    let same = same_number c.args.word.now n c.in-Some.l says c.in-Some.ensures.says in
    omega (arith, same, below, c.if-latch-latches.false)
