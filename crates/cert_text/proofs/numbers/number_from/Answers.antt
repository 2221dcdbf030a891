use Rattle.std.proofs.Common.{arith}
use Rattle.cert_text.proofs.NumbersRead.{same_number}
use Rattle.cert_text.proofs.numbers.number_from.Goals as goal

pub returns-in_default-clause-says : goal.returns-in_default-clause-says
returns-in_default-clause-says c n says =
    let same = same_number c.args.word.now n c.in-Some.n says c.in-Some.ensures.says in
    omega (arith, same, c.if-least-n.false)
