use Rattle.std.proofs.Common.{ap, length, eq-eqb}
use Rattle.hy_finite.proofs.LineAnswers.{no-word}
use Rattle.hy_finite.proofs.checks.check_word.Goals as goal

pub returns-then-not-is_empty : goal.returns-then-not-is_empty
returns-then-not-is_empty c =
    let (sets, spelled, count, kept) = c.in-Some.ensures in
    no-word c.args.text.now sets c.in-Some.word.rest.now spelled
    (λ none. let e = eq-eqb (length c.in-Some.word.rest.now) 0 (ap length none) in
    cc (e, c.is_empty.ensures, c.if-not-is_empty.true))
