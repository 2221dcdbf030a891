use Rattle.cert_text.specs.RunLines.{SaysRow}
use Rattle.cert_text.proofs.Rows.{none_read, more_read}
use Rattle.cert_text.proofs.run_lines.read_rows.Goals as goal

pub loop-piece-init : goal.loop-piece-init
loop-piece-init c = none_read c.args.text.now c.new-rows.result c.new-rows.ensures

pub loop-piece-preserved : goal.loop-piece-preserved
loop-piece-preserved c =
    let says : SaysRow c.in-Some.piece.now c.in-Some-2.row = rw c.in-Some-2.is at c.in_ok-row.ensures in
    more_read c.args.text.now c.loop-piece.left.now c.in-Some.rest.now c.in-Some.piece.now
    c.loop-piece.rows c.push.new.self c.in-Some-2.row c.loop-piece.invariant
    c.in-Some.ensures.pieces says c.in_ok-push.ensures.added
