use Rattle.cert_laws.proofs.Decisions.{sat-good, unsat-good}
use Rattle.cert_laws.proofs.Shown.{good-text}
use Rattle.cert_laws.proofs.laws.decided_formulas.Goals as goal

pub returns-clause-sat : goal.returns-clause-sat
returns-clause-sat c names f list table over is = good-text names _ list _ (sat-good names table f over list is)

pub returns-clause-unsat : goal.returns-clause-unsat
returns-clause-unsat c names f proof few is short = good-text names _ _ _ (unsat-good names f proof few is short)
