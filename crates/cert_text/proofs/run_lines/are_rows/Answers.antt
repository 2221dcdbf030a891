use Rattle.std.proofs.Common.{◌≡◌, true, false, sym, ◌∙◌}
use Rattle.hy_text.specs.Cuts.{cut_at}
use Rattle.cert_text.specs.RunLines.{SaysRow}
use Rattle.cert_text.proofs.NumbersRead.{through}
use Rattle.cert_text.proofs.WordsRead.{each_said, said_each, each_step, each_bad, each_alone}
use Rattle.cert_text.proofs.run_lines.are_rows.Goals as goal

pub returns-then-not-is_row : goal.returns-then-not-is_row
returns-then-not-is_row c = (
  λ (yes : false ≡ true). absurd (cc),
  λ (rows, said). absurd
      (each_bad SaysRow (cut_at 59 c.loop-row.left.now) (cut_at 59 c.in-Some.rest.now)
      c.in-Some.row.now c.in-Some.ensures.pieces
      (λ speaks.
      let clash : false ≡ true = sym c.if-not-is_row.true ∙ c.is_row.ensures.1 speaks in
      absurd (cc))
      (c.loop-row.invariant.0 (said_each SaysRow (cut_at 59 c.args.text.now) rows said))),
)

pub loop-row-preserved : goal.loop-row-preserved
loop-row-preserved c =
    through c.loop-row.invariant
    (each_step SaysRow (cut_at 59 c.loop-row.left.now) (cut_at 59 c.in-Some.rest.now)
    c.in-Some.row.now c.in-Some.ensures.pieces (c.is_row.ensures.0 c.if-not-is_row.false))

pub returns : goal.returns
returns c =
    let last = each_alone SaysRow (cut_at 59 c.loop-row.left.now) c.loop-row.left.now
    c.in_default.ensures.pieces in (
      λ yes. each_said SaysRow (cut_at 59 c.args.text.now)
          (c.loop-row.invariant.1 (last.1 (c.is_row-2.ensures.0 yes))),
      λ (rows, said). c.is_row-2.ensures.1
          (last.0 (c.loop-row.invariant.0 (said_each SaysRow (cut_at 59 c.args.text.now) rows
          said))),
    )
