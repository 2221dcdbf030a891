use Rattle.cert_text.proofs.Kept.{no_count}
use Rattle.cert_text.proofs.literals.count.Goals as goal

pub returns-in_default-clause-said : goal.returns-in_default-clause-said
returns-in_default-clause-said c =
    no_count c.args.word.now c.in-Some.n c.in-Some.ensures.says c.if-n-ne0.false
