use Rattle.hy_base.specs.Recorded.{shelf_entry}
use Rattle.hy_base.proofs.Recorded.{files_logged}
use Rattle.hy_base.proofs.laws.logged_reads.Goals as goal

pub returns : goal.returns
returns g c = files_logged _ (λ s. s.log) shelf_entry (λ old call new called. called)
