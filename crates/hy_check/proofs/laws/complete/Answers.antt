use Rattle.hy_check.proofs.Claims.{claim_texts}
use Rattle.hy_check.proofs.Due.{due_or_short}
use Rattle.hy_check.proofs.laws.complete.Goals as goal

pub returns-clause-files : goal.returns-clause-files
returns-clause-files c = c.complete.ensures c.settled.ensures

pub returns-clause-certificate : goal.returns-clause-certificate
returns-clause-certificate c question files contents table others claim cert given answer ready long gave decided =
    due_or_short table claim cert answer _ (c.due.ensures question contents table claim cert answer ready)
    (c.complete.ensures c.settled.ensures question files contents given table others answer long gave
    (claim_texts question contents claim table ready.makes) decided)
