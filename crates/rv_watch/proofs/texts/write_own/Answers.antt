use Rattle.rv_watch.proofs.texts.write_own.Goals as goal

pub returns-in-Traces-clause-given : goal.returns-in-Traces-clause-given
returns-in-Traces-clause-given g c = rw c.in-Traces.is c.write_all.ensures.given

pub returns-in-Lines-clause-given : goal.returns-in-Lines-clause-given
returns-in-Lines-clause-given g c = rw c.in-Lines.is c.write_all-in-Lines.ensures.given

pub returns-in-Line-clause-given : goal.returns-in-Line-clause-given
returns-in-Line-clause-given g c = rw c.in-Line.is c.write_line.ensures.given
