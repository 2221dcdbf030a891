use Rattle.ea_core.proofs.Searching.{not-both}
use Rattle.ea_core.proofs.laws.few_or_many.Goals as goal

pub returns : goal.returns
returns c = not-both
