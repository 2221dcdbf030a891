use Rattle.cert_text.proofs.Printable.{printable_ranks}
use Rattle.cert_text.proofs.laws.printable_rank_proofs.Goals as goal

pub returns : goal.returns
returns c = printable_ranks
