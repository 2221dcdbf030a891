use Rattle.hy_base.specs.Recorded.{sink_entry}
use Rattle.hy_base.proofs.Recorded.{whole_logged, failed_logged}
use Rattle.hy_base.proofs.laws.logged_writes.Goals as goal

pub returns-clause-given : goal.returns-clause-given
returns-clause-given g c = whole_logged _ (λ s. s.log) sink_entry (λ old put new called. called)

pub returns-clause-refused : goal.returns-clause-refused
returns-clause-refused g c = failed_logged _ (λ s. s.log) sink_entry (λ old put new called. called)
