use Rattle.std.proofs.Common.{ap, length, ◌∙◌, eq-eqb}
use Rattle.hy_finite.proofs.LineAnswers.{no-set}
use Rattle.hy_finite.proofs.sets.read_whole_set.Goals as goal

pub returns-in_default : goal.returns-in_default
returns-in_default c names rest set end = c.in_default.ensures.found names rest set

pub returns-then-not-is_empty : goal.returns-then-not-is_empty
returns-then-not-is_empty c =
    let (names, spelled, letter) = c.in-Some.ensures.found in
    no-set c.args.text.now names c.in-Some.set.rest.now spelled
    (λ none. let e = eq-eqb (length c.past_blanks.result.now) 0 (ap length
    (c.past_blanks.ensures.behind ∙ none)) in cc
    (e, c.is_empty.ensures, c.if-not-is_empty.true))
