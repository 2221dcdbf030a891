use Rattle.cert_laws.proofs.Checks.{holds-good, violated-good}
use Rattle.cert_laws.proofs.Shown.{good-text}
use Rattle.cert_laws.proofs.laws.checked_circuits.Goals as goal

pub returns-clause-holds : goal.returns-clause-holds
returns-clause-holds c names net signals f ask traces tuple proof table over are deep is short =
    good-text names _ traces _ (holds-good names table net signals f over are ask deep traces tuple proof is short)

pub returns-clause-violated : goal.returns-clause-violated
returns-clause-violated c names net signals f ask traces tuple proof table over are deep is short =
    good-text names _ traces _ (violated-good names table net signals f over are ask deep traces tuple proof is short)
