use Rattle.std.proofs.lemmas.Result.{err_from_is_err_and}
use Rattle.hy_files.specs.Steps.{unread}
use Rattle.circuit_files.proofs.Failing.{circuit-fails}
use Rattle.circuit_files.proofs.files.circuit_in.Goals as goal

pub returns-in_err-bytes-clause-failed : goal.returns-in_err-bytes-clause-failed
returns-in_err-bytes-clause-failed g c =
    let p = err_from_is_err_and c.from_residual.result c.from_residual.ensures.1 in
    rw (p.1, p.2) (unread c.in_err-bytes.field-0.0 c.in_err-bytes.ensures.read)

pub returns-clause-failed : goal.returns-clause-failed
returns-clause-failed g c =
    rw c.aiger_fault.ensures (circuit-fails g.S.Shelf _ _ _ _ _ c.in_ok-bytes.ensures.read c.as_slice.ensures c.in-Err.error c.in-Err.ensures.answer)
