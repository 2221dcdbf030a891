use Rattle.std.proofs.lemmas.Result.{err_from_is_err_and}
use Rattle.hy_formula.specs.Formulas.{plain_formula}
use Rattle.claim_check.specs.Claims.{circuit}
use Rattle.claim_check.proofs.Counted.{stopped_judged, weighed_judged}
use Rattle.claim_check.proofs.circuits.judge_as.Goals as goal

pub returns-in_err-posed : goal.returns-in_err-posed
returns-in_err-posed c certificate read =
    let p = err_from_is_err_and c.from_residual.result c.from_residual.ensures.1 in
    rw (p.1, p.2)
    (stopped_judged c.args.names.now (circuit c.args.net.now (plain_formula c.args.f.now))
    certificate c.args.read.now.list read.over c.in_err-posed.field-0.0
    c.in_err-posed.ensures.stopped)

pub returns : goal.returns
returns c certificate read =
    weighed_judged c.args.names.now (circuit c.args.net.now (plain_formula c.args.f.now))
    certificate c.args.read.now.list read.over c.weigh.result c.in_ok-posed.ensures.within
    (c.in_ok-posed.posed.signals, c.in_ok-posed.ensures.signals)
    (c.weigh.ensures certificate read)
