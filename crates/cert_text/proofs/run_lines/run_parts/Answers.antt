use Rattle.cert_text.proofs.Cutting.{pieces_more}
use Rattle.cert_text.proofs.Rows.{one_word_parts, no_bar, more_bars, one_bar}
use Rattle.cert_text.proofs.run_lines.run_parts.Goals as goal

pub returns-in_default : goal.returns-in_default
returns-in_default c = one_word_parts c.args.line.now c.in_default.ensures

pub returns-in_default-cut : goal.returns-in_default-cut
returns-in_default-cut c =
    no_bar c.args.line.now c.in-Some.first.now c.in-Some.rows.now c.in-Some.ensures
    c.in_default-cut.ensures.pieces

pub returns-in-Some-cut-2 : goal.returns-in-Some-cut-2
returns-in-Some-cut-2 c =
    more_bars c.args.line.now c.in-Some.first.now c.in-Some.rows.now c.in-Some-cut.stem.now
    c.in-Some-cut.cycle.now c.in-Some.ensures c.in-Some-cut.ensures.pieces
    (pieces_more 124 c.in-Some-cut.cycle.now c.in-Some-cut-2.field-0.0.now
    c.in-Some-cut-2.field-0.1.now c.in-Some-cut-2.ensures.pieces)

pub returns-in-None : goal.returns-in-None
returns-in-None c =
    one_bar c.args.line.now c.in-Some.first.now c.in-Some.rows.now c.in-Some-cut.stem.now
    c.in-Some-cut.cycle.now c.in-Some.ensures c.in-Some-cut.ensures.pieces
    c.in-None.ensures.pieces
