-- There is one run, and it recurs.
use Rattle.aig_net.proofs.Recurring.{run-recurs}
use Rattle.aig_net.proofs.Running.{one-run, some-run}
use Rattle.aig_net.proofs.laws.one_run.Goals as goal

pub returns-clause-some : goal.returns-clause-some
returns-clause-some c = some-run

pub returns-clause-only : goal.returns-clause-only
returns-clause-only c = one-run

pub returns-clause-recurs : goal.returns-clause-recurs
returns-clause-recurs c net inputs latches word s p good is =
    run-recurs net inputs latches word good is s p
