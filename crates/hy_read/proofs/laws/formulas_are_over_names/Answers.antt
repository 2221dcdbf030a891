use Rattle.hy_read.proofs.ReadFormulas.{all_readings}
use Rattle.hy_read.proofs.laws.formulas_are_over_names.Goals as goal

pub returns : goal.returns
returns c = all_readings
