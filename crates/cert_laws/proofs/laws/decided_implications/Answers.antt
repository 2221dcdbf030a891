use Rattle.cert_laws.proofs.Decisions.{implied-good, not-implied-good}
use Rattle.cert_laws.proofs.Shown.{good-text}
use Rattle.cert_laws.proofs.laws.decided_implications.Goals as goal

pub returns-clause-implied : goal.returns-clause-implied
returns-clause-implied c names f g proof few is short = good-text names _ _ _ (implied-good names f g proof few is short)

pub returns-clause-not_implied : goal.returns-clause-not_implied
returns-clause-not_implied c names f g list table over also is =
    good-text names _ list _ (not-implied-good names table f g over also list is)
