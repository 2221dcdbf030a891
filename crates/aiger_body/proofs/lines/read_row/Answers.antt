use Rattle.std.proofs.Common.{◌≡◌, ◌<◌, ◌++◌, ◌∙◌, suc, sym, ap, take, true, false, length, arith, Some}
use Rattle.aiger_body.specs.Texts.{is_ended, is_feed, line_text, numbers_of}
use Rattle.aiger_body.specs.Files.{line, is_right, section as section_of, row as row_of}
use Rattle.aig_kind.specs.declared.kind.AigKind.TheVariants.{Literal}
use Rattle.aiger_body.specs.Outcomes.{fault}
use Rattle.aiger_body.proofs.Rows.{row_right, row_same}
use Rattle.aiger_body.proofs.LinesRead.{literal_fault}
use Rattle.aiger_body.proofs.Scanning.{ended_some}
use Rattle.aiger_body.proofs.lines.read_row.Goals as goal

pub returns-then-not-is_right : goal.returns-then-not-is_right
returns-then-not-is_right c =
    let h = c.args.header.now in
    let bytes = c.args.bytes.now in
    let k = c.args.line in
    let at = c.line_at-text.ensures.line (suc k) c.requires.start.place in
    let said = c.as_slice.ensures ∙ c.in_ok-read_numbers.ensures ∙ ap (λ t. c.begin_row.new.row ++ take 10 (numbers_of t)) c.text_of.ensures ∙ ap (λ r. r ++ take 10 (numbers_of (line_text c.line_at-text.result.now))) c.in_ok-begin_row.ensures in
    let ended : is_ended is_feed (line bytes k) ≡ true = ap (is_ended is_feed) (sym at) ∙ sym c.if-not-is_whole.ensures in
    let wrong : is_right h (section_of h bytes k) (row_of h bytes k) ≡ false = sym (row_right h bytes k c.args.section c.line_at-text.result.now c.as_slice.result.now c.requires.section at said) ∙ sym c.if-not-is_right.ensures in
    literal_fault h bytes k ended wrong ∙ ap (λ b. Some (fault Literal b)) (sym c.requires.start.place)

pub returns : goal.returns
returns c =
    let h = c.args.header.now in
    let bytes = c.args.bytes.now in
    let k = c.args.line in
    let at = c.line_at-text.ensures.line (suc k) c.requires.start.place in
    let said = c.as_slice.ensures ∙ c.in_ok-read_numbers.ensures ∙ ap (λ t. c.begin_row.new.row ++ take 10 (numbers_of t)) c.text_of.ensures ∙ ap (λ r. r ++ take 10 (numbers_of (line_text c.line_at-text.result.now))) c.in_ok-begin_row.ensures in
    let ended : is_ended is_feed (line bytes k) ≡ true = ap (is_ended is_feed) (sym at) ∙ sym c.if-not-is_whole.ensures in
    let right : is_right h (section_of h bytes k) (row_of h bytes k) ≡ true = sym (row_right h bytes k c.args.section c.line_at-text.result.now c.as_slice.result.now c.requires.section at said) ∙ sym c.if-not-is_right.ensures in
    let some : 0 < length c.line_at-text.result.now = ended_some is_feed c.line_at-text.result.now (sym c.if-not-is_whole.ensures) in
    record {
      same = sym c.as_slice.ensures ∙ row_same h bytes k c.args.section c.line_at-text.result.now c.as_slice.result.now c.requires.section at said right;
      ended = ended;
      right = right;
      start = record { place = c.line_at-text.ensures.next (suc k) c.requires.start.place; within = c.line_at-text.ensures.within; early = omega (arith, some, c.requires.start.early) };
    }
