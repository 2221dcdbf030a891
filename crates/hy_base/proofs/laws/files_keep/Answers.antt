use Rattle.hy_base.proofs.Readings.{files_keep}
use Rattle.hy_base.proofs.laws.files_keep.Goals as goal

pub returns : goal.returns
returns g c = files_keep g.S.Shelf
