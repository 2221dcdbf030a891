use Rattle.std.proofs.Common.{◌≡◌, true, false, sym, ◌∙◌}
use Rattle.cert_text.proofs.NumbersRead.{members_said}
use Rattle.cert_text.proofs.numbers.are_members.Goals as goal

pub returns-else-equals : goal.returns-else-equals
returns-else-equals c =
    members_said c.args.word.now c.are_ascending.result
    (λ dash.
    let clash : false ≡ true = sym c.if-equals.false ∙ c.equals.ensures.1 dash in absurd (cc))
    c.are_ascending.ensures
