use Rattle.hy_words.proofs.Telling.{same_items}
use Rattle.hy_words.proofs.laws.one_reading.Goals as goal

pub returns : goal.returns
returns c = same_items
