use Rattle.cert_text.proofs.Printable.{printable_runs}
use Rattle.cert_text.proofs.laws.printable_runs.Goals as goal

pub returns : goal.returns
returns c = printable_runs
