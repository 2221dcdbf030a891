use Rattle.hy_finite.proofs.OneAnswer.{good-say}
use Rattle.hy_finite.proofs.Collecting.{silent-says, next-more, next-fewer, next-good, next-checked, next-no_fault}
use Rattle.hy_finite.proofs.laws.next_events.Goals as goal

pub returns-clause-there : goal.returns-clause-there
returns-clause-there c = good-say

pub returns-clause-last : goal.returns-clause-last
returns-clause-last c = silent-says

pub returns-clause-more : goal.returns-clause-more
returns-clause-more c = next-more

pub returns-clause-fewer : goal.returns-clause-fewer
returns-clause-fewer c = next-fewer

pub returns-clause-good : goal.returns-clause-good
returns-clause-good c = next-good

pub returns-clause-checked : goal.returns-clause-checked
returns-clause-checked c = next-checked

pub returns-clause-no_fault : goal.returns-clause-no_fault
returns-clause-no_fault c = next-no_fault
