use Rattle.rv_watch.proofs.ByEvents.{input-by-events, watch-by-events}
use Rattle.rv_watch.proofs.laws.endings.Goals as goal

pub returns-clause-reads : goal.returns-clause-reads
returns-clause-reads g c q specs table old new said answer watches = watch-by-events q specs table g.S.Shelf old new said answer watches

pub returns-clause-bytes : goal.returns-clause-bytes
returns-clause-bytes g c q specs table bytes said answer comes = input-by-events q specs table bytes said answer comes
