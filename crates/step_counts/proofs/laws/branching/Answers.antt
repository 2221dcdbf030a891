use Rattle.step_counts.proofs.Bounding.{joint-bounds, first-bounds}
use Rattle.step_counts.proofs.laws.branching.Goals as goal

pub returns-clause-joint : goal.returns-clause-joint
returns-clause-joint c = joint-bounds

pub returns-clause-first : goal.returns-clause-first
returns-clause-first c = first-bounds
