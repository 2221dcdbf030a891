use Rattle.std.proofs.Common.{◌≡◌, ◌∙◌, sym, ap, refl, true, arith}
use Rattle.std.proofs.lemmas.Result.{err_from_is_err_and}
use Rattle.aiger_body.specs.Texts.{is_ended, is_feed, line_text}
use Rattle.aiger_body.specs.Files.{header_of}
use Rattle.aiger_body.specs.Outcomes.{first_line}
use Rattle.aiger_body.proofs.Headers.{fits_of}
use Rattle.aiger_body.proofs.Stages.{outcome_truncated, outcome_headed, header_refuses}
use Rattle.aiger_body.proofs.header.read_header.Goals as goal

pub returns-then-not-is_whole : goal.returns-then-not-is_whole
returns-then-not-is_whole c =
    let line = c.line_at-line.ensures.line 0 refl in
    outcome_truncated c.args.bytes.now (ap (is_ended is_feed) (sym line) ∙ sym c.if-not-is_whole.ensures)

pub returns-in_err-header : goal.returns-in_err-header
returns-in_err-header c =
    let p = err_from_is_err_and c.from_residual-in_err-header.result c.from_residual-in_err-header.ensures.1 in
    let line = c.line_at-line.ensures.line 0 refl in
    let ended : is_ended is_feed (first_line c.args.bytes.now) ≡ true = ap (is_ended is_feed) (sym line) ∙ sym c.if-not-is_whole.ensures in
    let said : header_of (line_text (first_line c.args.bytes.now)) ≡ c.in_ok-found.found = ap (λ l. header_of (line_text l)) (sym line) ∙ ap header_of (sym c.text_of.ensures) ∙ sym c.in_ok-found.ensures.said in
    rw (p.1, p.2)
    (header_refuses c.args.bytes.now c.in_ok-found.found c.in_err-header.field-0.0 (outcome_headed c.args.bytes.now c.in_ok-found.found ended said) c.in_err-header.ensures)

pub returns : goal.returns
returns c =
    let line = c.line_at-line.ensures.line 0 refl in
    record {
      ended = ap (is_ended is_feed) (sym line) ∙ sym c.if-not-is_whole.ensures;
      is = ap (λ l. header_of (line_text l)) (sym line) ∙ ap header_of (sym c.text_of.ensures) ∙ sym c.in_ok-found.ensures.said ∙ c.in_ok-header.ensures.0;
      clear = c.in_ok-header.ensures.1;
      fits = fits_of c.in_ok-header.header c.in_ok-header.ensures.1 c.in_ok-header.ensures.2;
      place = omega (arith, c.line_at-line.ensures.next 0 refl);
      within = omega (arith, c.line_at-line.ensures.within);
    }
