use Rattle.rv_core.proofs.Keepings.{keeps-count, keeps-apart, keeps-covers}
use Rattle.rv_core.proofs.laws.keeping.Goals as goal

pub returns-clause-counts : goal.returns-clause-counts
returns-clause-counts c m h s stands lt = keeps-count m h s stands lt

pub returns-clause-apart : goal.returns-clause-apart
returns-clause-apart c m h s p q stands lt = keeps-apart m h s stands lt p q

pub returns-clause-covers : goal.returns-clause-covers
returns-clause-covers c m h s t stands lt = keeps-covers m h s stands lt t
