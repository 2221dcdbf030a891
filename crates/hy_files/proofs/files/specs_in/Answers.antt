use Rattle.std.proofs.Common.{true}
use Rattle.std.proofs.lemmas.Result.{err_from_is_err_and}
use Rattle.hy_formula.specs.Formulas.{plain_formulas}
use Rattle.hy_files.specs.Steps.{unread}
use Rattle.hy_files.proofs.Failing.{none-more, text-fails}
use Rattle.hy_files.proofs.files.specs_in.Goals as goal

pub returns-in_err-bytes-clause-kept : goal.returns-in_err-bytes-clause-kept
returns-in_err-bytes-clause-kept g c = none-more c.args.names.now

pub returns-in_err-bytes-clause-failed : goal.returns-in_err-bytes-clause-failed
returns-in_err-bytes-clause-failed g c =
    let p = err_from_is_err_and c.from_residual.result c.from_residual.ensures.1 in
    rw (p.1, p.2) (unread c.in_err-bytes.field-0.0 c.in_err-bytes.ensures.read)

pub returns-in_err-read_specs-clause-failed : goal.returns-in_err-read_specs-clause-failed
returns-in_err-read_specs-clause-failed g c =
    let p = err_from_is_err_and c.from_residual-in_err-read_specs.result c.from_residual-in_err-read_specs.ensures.1 in
    rw (p.1, p.2) (text-fails g.S.Shelf _ _ _ true _ _ _ _ c.in_ok-bytes.ensures.read c.as_slice.ensures plain_formulas c.read_specs.new.names _ c.in_err-read_specs.ensures.answer)
