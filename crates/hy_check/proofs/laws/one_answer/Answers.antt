use Rattle.hy_check.proofs.laws.one_answer.Goals as goal

pub returns-clause-reads : goal.returns-clause-reads
returns-clause-reads c = c.one_answer.ensures.reads c.settled.ensures

pub returns-clause-bytes : goal.returns-clause-bytes
returns-clause-bytes c = c.one_answer.ensures.bytes c.settled.ensures
