use Rattle.rv_watch.proofs.texts.write_refusal.Goals as goal

pub returns-in-Words-clause-given : goal.returns-in-Words-clause-given
returns-in-Words-clause-given g c = rw c.in-Words.is c.write_all.ensures.given
