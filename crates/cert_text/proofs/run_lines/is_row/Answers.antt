use Rattle.std.proofs.Common.{◌≡◌, true, false, sym, ◌∙◌, ap, length, nat_eq}
use Rattle.cert_text.proofs.Rows.{row_said}
use Rattle.cert_text.proofs.run_lines.is_row.Goals as goal

pub returns : goal.returns
returns c =
    row_said c.args.word.now c.are_digits.result
    (λ none.
    let clash : false ≡ true =
    sym c.if-is_empty.false ∙ c.is_empty.ensures ∙ ap (λ w. nat_eq (length w) 0) none in
    absurd (cc))
    (λ dash.
    let clash : false ≡ true = sym c.if-equals.false ∙ c.equals.ensures.1 dash in absurd (cc))
    c.are_digits.ensures
