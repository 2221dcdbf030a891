use Rattle.std.proofs.Common.{◌≡◌, true, false, sym, ◌∙◌}
use Rattle.cert_text.proofs.Rows.{row_read}
use Rattle.cert_text.proofs.run_lines.read_row.Goals as goal

pub returns : goal.returns
returns c =
    row_read c.args.word.now c.in_ok-row.row (c.is_row.ensures.0 c.if-not-is_row.false)
    (λ dash.
    let clash : false ≡ true = sym c.if-equals.false ∙ c.equals.ensures.1 dash in absurd (cc))
    c.in_ok-row.ensures
