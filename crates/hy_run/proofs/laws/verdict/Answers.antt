use Rattle.hy_run.proofs.Following.{follows_command, sound_verdict}
use Rattle.hy_run.proofs.laws.verdict.Goals as goal

pub returns-clause-follows : goal.returns-clause-follows
returns-clause-follows g c settled = follows_command g.T.Tool.rules settled g.S.Shelf

pub returns-clause-sound : goal.returns-clause-sound
returns-clause-sound g c settled = sound_verdict g.T.Tool.rules settled g.S.Shelf
