use Rattle.std.proofs.Common.{[], ◌∷◌, false}
use Rattle.std.proofs.lemmas.Result.{err_from_is_err_and}
use Rattle.hy_formula.specs.declared.formula.Formula.{Formula}
use Rattle.hy_formula.specs.Formulas.{plain_formula}
use Rattle.hy_files.specs.Steps.{unread}
use Rattle.hy_files.proofs.Failing.{none-more, text-fails}
use Rattle.hy_files.proofs.files.formula_in.Goals as goal

pub returns-in_err-bytes-clause-kept : goal.returns-in_err-bytes-clause-kept
returns-in_err-bytes-clause-kept g c = none-more c.args.names.now

pub returns-in_err-bytes-clause-failed : goal.returns-in_err-bytes-clause-failed
returns-in_err-bytes-clause-failed g c =
    let p = err_from_is_err_and c.from_residual.result c.from_residual.ensures.1 in
    rw (p.1, p.2) (unread c.in_err-bytes.field-0.0 c.in_err-bytes.ensures.read)

pub returns-in_err-read_formula-clause-failed : goal.returns-in_err-read_formula-clause-failed
returns-in_err-read_formula-clause-failed g c =
    let p = err_from_is_err_and c.from_residual-in_err-read_formula.result c.from_residual-in_err-read_formula.ensures.1 in
    rw (p.1, p.2) (text-fails g.S.Shelf _ _ _ false _ _ _ _ c.in_ok-bytes.ensures.read c.as_slice.ensures (λ (f : Formula). plain_formula f ∷ []) c.read_formula.new.names _ c.in_err-read_formula.ensures.answer)
