use Rattle.std.proofs.Common.{◌≡◌, false, true, sym, ◌∙◌, []}
use Rattle.std.specs.Prelude.{codes}
use Rattle.cert_text.proofs.Heads.{one_behind, reason_said, no_reason_words}
use Rattle.cert_text.proofs.rank_lines.read_reason.Goals as goal

pub returns-in_default : goal.returns-in_default
returns-in_default c =
    no_reason_words c.args.line.now
    (λ is.
    let clash : false ≡ true = sym c.if-equals.false ∙ c.equals.ensures.1 is in absurd (cc))
    c.in_default.ensures

pub returns-in-Some-one_number : goal.returns-in-Some-one_number
returns-in-Some-one_number c =
    let behind = one_behind (codes "u") [] c.args.line.now c.in-Some.until.now
    c.in-Some-one_number.until c.in-Some.ensures in
    behind.0 c.in-Some-one_number.ensures.said

pub returns-in-None : goal.returns-in-None
returns-in-None c says =
    let (n, one) = (reason_said c.args.line.now c.in-Some.until.now c.in-Some.ensures).1 says in
    c.in-None.ensures.said n one
