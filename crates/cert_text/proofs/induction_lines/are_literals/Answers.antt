use Rattle.std.proofs.Common.{◌≡◌, true, false}
use Rattle.cert_text.proofs.ClauseLines.{literals_said}
use Rattle.cert_text.proofs.induction_lines.are_literals.Goals as goal

pub returns-in-Some : goal.returns-in-Some
returns-in-Some c =
    literals_said c.args.line.now c.in-Some.literals.now c.are_numbers.result c.in-Some.ensures
    c.are_numbers.ensures

pub returns-in-None : goal.returns-in-None
returns-in-None c =
    (λ (yes : false ≡ true). absurd (cc), λ says. absurd (c.in-None.ensures says))
