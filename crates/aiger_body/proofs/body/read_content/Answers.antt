use Rattle.std.proofs.lemmas.Result.{err_from_is_err_and}
use Rattle.aiger_body.proofs.Composing.{uses_tells}
use Rattle.aiger_body.proofs.body.read_content.Goals as goal

pub returns-in_err-check_uses : goal.returns-in_err-check_uses
returns-in_err-check_uses c =
    let p = err_from_is_err_and c.from_residual-in_err-check_uses.result c.from_residual-in_err-check_uses.ensures.1 in
    rw (p.1, p.2)
    (uses_tells c.args.header.now c.args.bytes.now c.in_err-check_uses.field-0.0 c.requires.right c.in_ok-lines.ensures.clear c.in_err-check_uses.ensures)
