use Rattle.std.proofs.lemmas.Result.{err_from_is_err_and}
use Rattle.hy_files.specs.Steps.{unread}
use Rattle.ea_tool.proofs.LassoFiles.{lassos-fail}
use Rattle.ea_tool.proofs.lassos.lassos_in.Goals as goal

pub returns-in_err-bytes-clause-failed : goal.returns-in_err-bytes-clause-failed
returns-in_err-bytes-clause-failed g c =
    let p = err_from_is_err_and c.from_residual.result c.from_residual.ensures.1 in
    rw (p.1, p.2) (unread c.in_err-bytes.field-0.0 c.in_err-bytes.ensures.read)

pub returns-in_err-read_lassos-clause-failed : goal.returns-in_err-read_lassos-clause-failed
returns-in_err-read_lassos-clause-failed g c =
    let p = err_from_is_err_and c.from_residual-in_err-read_lassos.result c.from_residual-in_err-read_lassos.ensures.1 in
    rw (p.1, p.2) (lassos-fail g.S.Shelf _ _ _ _ _ c.args.names.now c.in_ok-bytes.ensures.read c.as_slice.ensures _ c.in_err-read_lassos.ensures.answer)
