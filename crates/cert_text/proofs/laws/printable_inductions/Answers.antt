use Rattle.cert_text.proofs.Printable.{printable_induction}
use Rattle.cert_text.proofs.laws.printable_inductions.Goals as goal

pub returns : goal.returns
returns c = printable_induction
