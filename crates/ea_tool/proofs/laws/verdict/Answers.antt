use Rattle.ea_tool.proofs.laws.verdict.Goals as goal

pub returns-clause-follows : goal.returns-clause-follows
returns-clause-follows g c = c.verdict.ensures.follows c.settled.ensures

pub returns-clause-sound : goal.returns-clause-sound
returns-clause-sound g c = c.verdict.ensures.sound c.settled.ensures
