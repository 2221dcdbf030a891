use Rattle.step_counts.proofs.Making.{made-over}
use Rattle.step_counts.proofs.laws.made_traces_over_two.Goals as goal

pub returns : goal.returns
returns c = made-over
