use Rattle.hy_run.proofs.Shelves.{sound_gives, quiet_gives}
use Rattle.hy_run.proofs.laws.what_reads_give.Goals as goal

pub returns-clause-sound : goal.returns-clause-sound
returns-clause-sound g c names files old new given tells sound have reads =
    sound_gives g.S.Shelf names files old new given tells sound have reads

pub returns-clause-quiet : goal.returns-clause-quiet
returns-clause-quiet g c names old new given came opens open_last reads read_last =
    quiet_gives g.S.Shelf names old new given came opens open_last reads read_last
