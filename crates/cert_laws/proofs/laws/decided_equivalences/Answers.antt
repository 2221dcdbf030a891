use Rattle.cert_laws.proofs.Decisions.{equivalent-good, first-alone-good, second-alone-good}
use Rattle.cert_laws.proofs.Shown.{good-text}
use Rattle.cert_laws.proofs.laws.decided_equivalences.Goals as goal

pub returns-clause-equivalent : goal.returns-clause-equivalent
returns-clause-equivalent c names f g one two few small is short =
    good-text names _ _ _ (equivalent-good names f g one two few small is short)

pub returns-clause-first : goal.returns-clause-first
returns-clause-first c names f g list table over also is =
    good-text names _ list _ (first-alone-good names table f g over also list is)

pub returns-clause-second : goal.returns-clause-second
returns-clause-second c names f g list table over also is =
    good-text names _ list _ (second-alone-good names table f g over also list is)
