use Rattle.std.proofs.Common.{refl}
use Rattle.std.proofs.lemmas.Result.{err_from_is_err_and}
use Rattle.hy_files.proofs.files.bytes_in.Goals as goal

pub returns-in_err-read_all-clause-failed : goal.returns-in_err-read_all-clause-failed
returns-in_err-read_all-clause-failed g c =
    let p = err_from_is_err_and c.from_residual.result c.from_residual.ensures.1 in
    rw (p.1, p.2) (c.in_err-read_all.field-0.0, c.in_err-read_all.ensures.read, refl)
