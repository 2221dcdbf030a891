use Rattle.std.proofs.Common.{◌≡◌, ◌∷◌, true, false, nat_eq, length, sym, ◌∙◌, ap, arith}
use Rattle.std.specs.Option.{option_copied}
use Rattle.hy_text.specs.Lines.{left_lines, left_len}
use Rattle.cert_text.proofs.Answering.{passed_more, wrong_here, cut_off, too_short, empty_line}
use Rattle.cert_text.proofs.fault.first_fault.Goals as goal
use Rattle.cert_text.proofs.fault.first_fault.Goals.{else-is_empty-via-then-is_empty+else-is_over, else-is_empty-via-else-is_empty}

-- the last line, which is empty where more is wanted, or lacks its line feed
pub returns-in_default : goal.returns-in_default
returns-in_default c =
    let last = c.split_line.ensures.lines
    ∙ ap (λ o. c.split_line.result.0.now ∷ left_lines (option_copied o)) c.in_default.is in
    elim c.else-is_empty.branch [
      | else-is_empty-via-then-is_empty+else-is_over w ↦
          let none = empty_line c.split_line.result.0.now
          (sym w.if-is_empty.true ∙ c.is_empty.ensures) in
          too_short c.args.question c.args.bytes.now c.loop-rest.left.now c.split_line.result.0.now
          c.loop-rest.want c.loop-rest.number c.loop-rest.invariant.passed last none
          (λ over.
          let clash : false ≡ true = sym w.if-is_over.false ∙ w.is_over.ensures.1 over in
          absurd (cc))
      | else-is_empty-via-else-is_empty w ↦
          cut_off c.args.question c.args.bytes.now c.loop-rest.left.now c.split_line.result.0.now
          c.loop-rest.want c.loop-rest.number c.loop-rest.invariant.passed last
          (λ none.
          let clash : false ≡ true = sym w.if-is_empty.false ∙ c.is_empty.ensures
          ∙ ap (λ l. nat_eq (length l) 0) none in
          absurd (cc))
    ]

-- a line that is not as wanted
pub returns-in_default-take : goal.returns-in_default-take
returns-in_default-take c =
    let cut = c.split_line.ensures.lines
    ∙ ap (λ o. c.split_line.result.0.now ∷ left_lines (option_copied o)) c.in-Some.is in
    wrong_here c.args.question c.args.bytes.now c.loop-rest.left.now c.in-Some.rest.now
    c.split_line.result.0.now c.loop-rest.want c.loop-rest.number
    c.loop-rest.invariant.passed cut c.in_default-take.ensures

-- one line more
pub loop-rest-preserved : goal.loop-rest-preserved
loop-rest-preserved c =
    let cut = c.split_line.ensures.lines
    ∙ ap (λ o. c.split_line.result.0.now ∷ left_lines (option_copied o)) c.in-Some.is in
    let shorter = ap (λ o. left_len (option_copied o)) c.in-Some.is in
    record {
      passed =
          passed_more c.args.question c.args.bytes.now c.loop-rest.left.now c.in-Some.rest.now
          c.split_line.result.0.now c.loop-rest.want c.in-Some-take.next c.loop-rest.number
          c.loop-rest.invariant.passed cut c.in-Some-take.ensures;
      countable =
          omega (arith, shorter, c.split_line.ensures.fewer, c.loop-rest.invariant.countable);
    }
