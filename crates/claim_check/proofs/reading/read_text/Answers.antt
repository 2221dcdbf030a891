use Rattle.std.proofs.Common.{◌∷◌, ◌∙◌, ap}
use Rattle.std.specs.Option.{option_copied}
use Rattle.hy_text.specs.Lines.{left_lines}
use Rattle.claim_check.proofs.Parts.{is_read, not_alone}
use Rattle.claim_check.proofs.reading.read_text.Goals as goal

pub returns-in_default-clause-read : goal.returns-in_default-clause-read
returns-in_default-clause-read c question certificate is =
    absurd (not_alone c.lassos_end.ensures.ranks c.lassos_end.ensures.induction
    c.lassos_end.ensures.free c.lassos_end.ensures.runs c.lassos_end.ensures.empty c.args.names.now c.args.text.now question
    certificate is c.split_line.result.0.now
    (c.split_line.ensures.lines
    ∙ ap (λ o. c.split_line.result.0.now ∷ left_lines (option_copied o)) c.in_default.is))

pub returns-clause-read : goal.returns-clause-read
returns-clause-read c question certificate is =
    let cut = c.split_line.ensures.lines
    ∙ ap (λ o. c.split_line.result.0.now ∷ left_lines (option_copied o)) c.in-Some.is in
    is_read c.lassos_end.ensures.ranks c.lassos_end.ensures.induction
    c.lassos_end.ensures.free c.lassos_end.ensures.runs c.lassos_end.ensures.empty c.args.names.now c.args.text.now question
    certificate is c.split_line.result.0.now c.in-Some.rest.now _ _ cut c.in_ok-list.ensures.lassos
